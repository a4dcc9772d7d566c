-- `editor::edit::insert_for` meets its contract: its tests are the definition's, in the same order.
use Prim.Native.Nat.{◌-◌}
use mathlib.Core.Bool.{false}
use mathlib.Core.Path.{◌≡◌, sym, ◌∙◌}
use native.Mathlib.Omega.{arith}
use Rattle.prelude.specs.Answers.{outside}
use Rattle.prelude.proofs.Laws.{within}
use borrow.Author.Rules.{rules}
use Rattle.std.specs.Prelude.{Err}
use Rattle.audit.specs.Checked.{check_error_of}
use Rattle.editor.specs.declared.edit.EditError.TheVariants.{Refused}
use Rattle.audit.proofs.Answered.{refuses, well_formed}
use Rattle.editor.specs.code.Editing.{InRange}
use Rattle.editor.proofs.Outcomes.{insert_51, insert_52, insert_refused, insert_done}
use Rattle.editor.proofs.edit.insert_for.Goals as goal

pub returns-then-outside : goal.returns-then-outside
returns-then-outside c = insert_51 _ _ _ _ _ _ (sym c.outside.ensures ∙ c.if-outside.true)

pub returns-then-outside-2 : goal.returns-then-outside-2
returns-then-outside-2 c =
    let in_range : outside 1 (c.args.format.prime - 1) c.args.code ≡ false = sym c.outside.ensures ∙ c.if-outside.false in
    insert_52 _ _ _ _ _ _ in_range (sym c.outside-2.ensures ∙ c.if-outside-2.true)

pub returns-in_err-check_for : goal.returns-in_err-check_for
returns-in_err-check_for c =
    let in_range : outside 1 (c.args.format.prime - 1) c.args.code ≡ false = sym c.outside.ensures ∙ c.if-outside.false in
    let scheduled : outside 1 999 c.args.schedule ≡ false = sym c.outside-2.ensures ∙ c.if-outside-2.false in
    let e = c.in_err-check_for.field-0.0 in
    let is : c.from_residual.result ≡ Err (Refused e) = search rules in
    rw is (insert_refused _ _ _ _ _ _ in_range scheduled (check_error_of e) c.in_err-check_for.ensures (refuses e))

pub put_in-requires : goal.put_in-requires
put_in-requires c =
    let in_range : outside 1 (c.args.format.prime - 1) c.args.code ≡ false = sym c.outside.ensures ∙ c.if-outside.false in
    let scheduled : outside 1 999 c.args.schedule ≡ false = sym c.outside-2.ensures ∙ c.if-outside-2.false in
    let code = within 1 (c.args.format.prime - 1) c.args.code in_range in
    let schedule = within 1 999 c.args.schedule scheduled in
    let accepted = sym c.in_ok-check_for.ensures in
    let range : InRange c.args.format.prime c.args.code c.args.schedule
    = record { code_from_one = code.0; code_below = omega arith; schedule_from_one = schedule.0; schedule_to_999 = schedule.1 } in
    record { prime = c.requires.prime; limit_le_room = c.requires.limit_le_room; well_formed = well_formed _ _ _ _ accepted; in_range = range }

pub returns : goal.returns
returns c =
    let in_range : outside 1 (c.args.format.prime - 1) c.args.code ≡ false = sym c.outside.ensures ∙ c.if-outside.false in
    let scheduled : outside 1 999 c.args.schedule ≡ false = sym c.outside-2.ensures ∙ c.if-outside-2.false in
    insert_done _ _ _ _ _ _ in_range scheduled _
    (sym c.in_ok-check_for.ensures) c.put_in.ensures
