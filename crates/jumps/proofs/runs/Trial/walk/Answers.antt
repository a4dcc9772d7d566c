use Prim.Native.Nat.{◌-◌}
use native.Mathlib.Nat.{min-le_right}
use native.Mathlib.Omega.{arith}
use Rattle.jumps.proofs.Passing.{fail_on}
use Rattle.jumps.proofs.runs.Trial.walk.Goals as goal

pub loop-done-preserved : goal.loop-done-preserved
loop-done-preserved c = (
  fail_on c.args.self.runs c.args.self.ends c.loop-done-test.true
      (omega (arith, c.min.ensures, min-le_right c.loop-done.guess (c.args.self.run.reach - c.loop-done.done)))
      c.loop-done.invariant.0 c.failing-more.ensures.0,
  c.failing-more.ensures.1,
)
