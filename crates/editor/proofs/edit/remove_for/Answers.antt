-- `editor::edit::remove_for` meets its contract: its tests are the definition's, in the same order.
use Prim.Native.Nat.{◌-◌}
use mathlib.Core.Bool.{false}
use mathlib.Core.Path.{◌≡◌, sym, ◌∙◌}
use Rattle.prelude.specs.Answers.{outside}
use borrow.Author.Rules.{rules}
use Rattle.std.specs.Prelude.{Err}
use Rattle.audit.specs.Checked.{check_error_of}
use Rattle.editor.specs.declared.edit.EditError.TheVariants.{Refused}
use Rattle.audit.proofs.Answered.{refuses, well_formed}
use Rattle.editor.proofs.Outcomes.{remove_51, remove_refused, remove_done}
use Rattle.editor.proofs.edit.remove_for.Goals as goal

pub returns-then-outside : goal.returns-then-outside
returns-then-outside c = remove_51 _ _ _ _ _ (sym c.outside.ensures ∙ c.if-outside.true)

pub returns-in_err-check_for : goal.returns-in_err-check_for
returns-in_err-check_for c =
    let in_range : outside 1 (c.args.format.prime - 1) c.args.code ≡ false = sym c.outside.ensures ∙ c.if-outside.false in
    let e = c.in_err-check_for.field-0.0 in
    let is : c.from_residual.result ≡ Err (Refused e) = search rules in
    rw is (remove_refused _ _ _ _ _ in_range (check_error_of e) c.in_err-check_for.ensures (refuses e))

pub take_out-requires : goal.take_out-requires
take_out-requires c = record { prime = c.requires.prime; limit_le_room = c.requires.limit_le_room; well_formed = well_formed _ _ _ _ (sym c.in_ok-check_for.ensures) }

pub returns : goal.returns
returns c =
    let in_range : outside 1 (c.args.format.prime - 1) c.args.code ≡ false = sym c.outside.ensures ∙ c.if-outside.false in
    remove_done _ _ _ _ _ in_range _ (sym c.in_ok-check_for.ensures)
    c.take_out.ensures
