-- `search::cells::two_multiplier` meets its contract.
use mathlib.Core.Path.{◌∙◌}
use Rattle.std.proofs.Common.{rules}
use Rattle.search.proofs.LeastCells.{untried}
use Rattle.search.proofs.Twos.{as_number, first_test, two_start, two_separates}
use Rattle.search.proofs.cells.two_multiplier.Goals as goal

pub least_apart-requires-clause-untried : goal.least_apart-requires-clause-untried
least_apart-requires-clause-untried c =
    untried (two_start c.requires (c.from-first.ensures ∙ rw (first_test c.requires) (as_number _)) (c.from-second.ensures ∙ rw c.collide.ensures (as_number _)))

pub least_apart-requires-clause-tells : goal.least_apart-requires-clause-tells
least_apart-requires-clause-tells c = search (rules, two_separates)
