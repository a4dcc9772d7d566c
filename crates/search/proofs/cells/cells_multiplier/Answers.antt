use mathlib.Core.Path.{refl}
use Rattle.search.proofs.LeastCells.{cells_start}
use Rattle.search.proofs.cells.cells_multiplier.Goals as goal

pub loop-q-init : goal.loop-q-init
loop-q-init c = (cells_start c.requires.unplaced.codes, refl)
