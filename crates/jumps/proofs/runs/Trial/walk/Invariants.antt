-- `jumps::runs::Trial::walk` meets its contract. The loop's invariant: those before `done` fail. The measure is what is left of the run.
use Prim.Native.Nat.{◌+◌, ◌-◌}
use mathlib.Core.Path.{◌≡◌}
use lib.ListN.{length}
use Rattle.jumps.specs.code.Jumps.{Fail}
use Rattle.jumps.proofs.runs.Trial.walk.Given as goal

abbrev pub invariant-loop-done : goal.invariant-loop-done
invariant-loop-done l = Fail l.self.run l.self.run.step l.self.codes.now l.done × (length l.keys ≡ length l.self.codes.now)

abbrev pub decreases-loop-done : goal.decreases-loop-done
decreases-loop-done l = l.self.run.reach + 1 - l.done
