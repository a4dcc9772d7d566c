-- `panel::panel_for` meets its contract: its tests are the definition's, in the same order.
use Prim.Native.Nat.{ℕ}
use mathlib.Core.Path.{◌∙◌, sym, ap, subst}
use borrow.Author.Rules.{rules}
use Rattle.prelude.specs.Answers.{Answer}
use Rattle.table.proofs.Sizing.{sized, has_blocks_lem}
use Rattle.table.specs.code.Sized.{WithBlocks}
use Rattle.panel.specs.code.Decided.{answer_at}
use Rattle.panel.proofs.Walking.{walk_unread, unread_at}
use Rattle.panel.proofs.Past.{right_holds, panel_past}
use Rattle.panel.proofs.panel_for.Goals as goal

pub returns-then-not-has_blocks : goal.returns-then-not-has_blocks
returns-then-not-has_blocks c =
    let none = sym c.has_blocks.ensures ∙ c.if-not-has_blocks.true in
    c.found_at.ensures
    ∙ ap (λ (a : Answer). answer_at a 0) c.lookup_for.ensures
    ∙ unread_at _ _ _ _ 0 none
    ∙ walk_unread _ _ _ _ _ (search rules) none
    ∙ sym (panel_past _ _ _ _ _ (search rules) c.if-codes-gt64.false (sym c.bad_holds.ensures ∙ c.if-bad_holds.false))

pub table_hash-requires : goal.table_hash-requires
table_hash-requires c =
    let blocks = has_blocks_lem (sym c.has_blocks.ensures ∙ c.if-not-has_blocks.false) in
    record { in_bounds = (blocks.three, blocks.some); words_bound = (sized blocks.sizes).below }

pub walk-requires-clause-hashed : goal.walk-requires-clause-hashed
walk-requires-clause-hashed c =
    let blocks = has_blocks_lem (sym c.has_blocks.ensures ∙ c.if-not-has_blocks.false) in
    (subst (λ (p : ℕ). WithBlocks p c.args.format.limit c.args.words.now) (sym c.table_hash.ensures.1) blocks, c.table_hash.ensures.0)

pub walk-requires-clause-holds_len : goal.walk-requires-clause-holds_len
walk-requires-clause-holds_len c = ((right_holds _).0 (sym c.bad_holds.ensures ∙ c.if-bad_holds.false)).0
