use Rattle.search.proofs.LeastCells.{cells_untried}
use Rattle.search.proofs.cells.least_apart.Goals as goal

pub loop-q-init : goal.loop-q-init
loop-q-init g c = cells_untried c.requires.searchable.0 c.requires.untried
