-- `jumps::runs::measure` meets its contract: nothing is promised of the moves.
use Prim.Native.Nat.{◌≤◌}
use lib.ListN.{length}
use Rattle.jumps.proofs.runs.measure.Given as goal

abbrev pub invariant-loop-a : goal.invariant-loop-a
invariant-loop-a l = (l.a-index ≤ length l.codes) × ((l.far ≤ l.a-index) × (l.moves ≤ l.p))
