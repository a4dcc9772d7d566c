-- `jumps::runs::best_step` meets its contract. The loop's invariant: the best is one of the first steps.
use Prim.Native.Nat.{◌<◌, ◌≤◌}
use Rattle.jumps.proofs.runs.best_step.Given as goal

abbrev pub invariant-loop-step : goal.invariant-loop-step
invariant-loop-step l = (0 < l.best.step) × ((l.best.step < l.p) × (l.best.step ≤ 4096))
