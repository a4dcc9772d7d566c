-- `search::cells::few_multiplier` meets its contract.
use Rattle.search.proofs.LeastCells.{cells_start, untried}
use Rattle.search.proofs.cells.few_multiplier.Goals as goal

pub least_apart-requires-clause-untried : goal.least_apart-requires-clause-untried
least_apart-requires-clause-untried c = untried (cells_start c.requires.searchable.0)
