use Rattle.jumps.proofs.Passing.{swept_next}
use Rattle.jumps.proofs.runs.stretch.Goals as goal

pub loop-i-preserved : goal.loop-i-preserved
loop-i-preserved c = (
  swept_next c.requires.runs.0.forward c.loop-i.invariant.0 c.if-found-i.false c.walk-walked.ensures.0 c.loop-i-test.true c.nearer-found.ensures,
  c.walk-walked.ensures.1,
)
