-- `jumps::runs::pass_over` meets its contract. The loop's invariant: every multiplier before k fails. The measure is the prime less k.
use Prim.Native.Nat.{◌-◌, ◌≤◌}
use mathlib.Core.Path.{◌≡◌}
use lib.ListN.{length}
use Rattle.jumps.specs.code.Jumps.{Passed}
use Rattle.jumps.proofs.runs.pass_over.Given as goal

abbrev pub invariant-loop-k : goal.invariant-loop-k
invariant-loop-k l =
    Passed l.run.prime l.run.places l.run.most l.codes l.run.first l.k × ((l.k ≤ l.run.prime) × (length l.keys ≡ length l.codes))

abbrev pub decreases-loop-k : goal.decreases-loop-k
decreases-loop-k l = l.run.prime - l.k
