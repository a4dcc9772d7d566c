-- `search::cells::cells_multiplier` meets its contract. The loop's invariant: no multiplier before q separates the block, and the cells are as
-- they were. The measure is p less q.
use Prim.Native.Nat.{◌-◌}
use mathlib.Core.Path.{◌≡◌}
use Rattle.search.proofs.LeastCells.{TryingCells}
use Rattle.search.proofs.cells.cells_multiplier.Given as goal

abbrev pub invariant-loop-q : goal.invariant-loop-q
invariant-loop-q l = TryingCells l.h.prime l.block l.q × (l.cells ≡ l.initial.cells)

abbrev pub decreases-loop-q : goal.decreases-loop-q
decreases-loop-q l = l.h.prime - l.q
