-- `search::cells::least_apart` meets its contract. The loop's invariant: no multiplier before q separates the block. The measure is the least one
-- that does, less q.
use Prim.Native.Nat.{◌-◌}
use Rattle.table.specs.TwoLevel.{cells_multiplier}
use Rattle.search.proofs.LeastCells.{TryingCells}
use Rattle.search.proofs.cells.least_apart.Given as goal

abbrev pub invariant-loop-q : goal.invariant-loop-q
invariant-loop-q g l = TryingCells l.p l.block l.q

abbrev pub decreases-loop-q : goal.decreases-loop-q
decreases-loop-q g l = cells_multiplier l.p l.block - l.q
