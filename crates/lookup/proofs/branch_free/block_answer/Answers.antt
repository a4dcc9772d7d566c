-- `lookup::branch_free::block_answer` meets its contract: a block that can't be read is told from its ends, any other from its cell.
use mathlib.Core.Path.{◌∙◌, sym}
use borrow.Author.Rules.{rules}
use Rattle.prelude.proofs.Laws.{below_prime}
use Rattle.lookup.proofs.Probing.{shown_as, unread, readable, probed}
use Rattle.lookup.proofs.branch_free.block_answer.Goals as goal

pub returns-then-unreadable : goal.returns-then-unreadable
returns-then-unreadable c =
    shown_as
    (rw c.select.ensures
    (unread _ _ _ _ c.block_start-start.ensures c.block_end-end.ensures c.block_multiplier-q.ensures
    0
    (sym c.unreadable.ensures ∙ c.if-unreadable.true)))
    c.numbered.ensures

pub probe-requires : goal.probe-requires
probe-requires c =
    let ends = readable _ _ _ _ _ (sym c.unreadable.ensures ∙ c.if-unreadable.false) in
    (below_prime _ _ ends.1.1, (search rules, record { whole = search rules; rises = ends.0; below = ends.1.0 }))

pub returns : goal.returns
returns c =
    shown_as
    (probed _ _ _ _ c.block_start-start.ensures c.block_end-end.ensures c.block_multiplier-q.ensures
    (sym c.unreadable.ensures ∙ c.if-unreadable.false))
    c.probe.ensures
