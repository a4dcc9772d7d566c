use Prim.Native.Nat.{◌-◌}
use native.Mathlib.Nat.{min-le_right}
use native.Mathlib.Omega.{arith}
use Rattle.jumps.proofs.Passing.{passed_more}
use Rattle.jumps.proofs.runs.pass_over.Goals as goal

pub returns-then-failed-reach : goal.returns-then-failed-reach
returns-then-failed-reach c = record { passed = passed_more c.args.run c.loop-k.invariant.0 c.stretch-failed.ensures.0; keys_len_2 = c.stretch-failed.ensures.1 }

pub loop-k-preserved : goal.loop-k-preserved
loop-k-preserved c = (
  passed_more c.args.run c.loop-k.invariant.0 c.stretch-failed.ensures.0,
  (
    omega (arith, c.stretch-failed.ensures.0.within, c.min-reach.ensures, min-le_right c.loop-k.k (c.args.run.prime - 1 - c.loop-k.k), c.loop-k-test.true),
    c.stretch-failed.ensures.1,
  ),
)
