use Rattle.jumps.proofs.Beginning.{stepped_more}
use Rattle.jumps.proofs.starts.common_step.Goals as goal

pub loop-a-preserved : goal.loop-a-preserved
loop-a-preserved c =
    stepped_more c.loop-a.invariant c.loop-a-test.true c.gcd-e.ensures
