use native.Mathlib.Omega.{arith}
use Rattle.jumps.proofs.Beginning.{euclid_more}
use Rattle.jumps.proofs.starts.gcd.Goals as goal

pub loop-y-preserved : goal.loop-y-preserved
loop-y-preserved c =
    euclid_more c.loop-y.invariant (omega (arith, c.loop-y-test.true))
