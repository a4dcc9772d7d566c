-- `jumps::runs::Trial::failing` meets its contract. The loop's invariant: the reach is no longer than the run's. The measure is the reach.
use Prim.Native.Nat.{◌≤◌}
use mathlib.Core.Path.{◌≡◌}
use lib.ListN.{length}
use Rattle.jumps.proofs.runs.Trial.failing.Given as goal

abbrev pub invariant-loop-reach : goal.invariant-loop-reach
invariant-loop-reach l = (l.reach ≤ l.self.run.reach) × (length l.keys ≡ length l.self.codes.now)

abbrev pub decreases-loop-reach : goal.decreases-loop-reach
decreases-loop-reach l = l.reach
