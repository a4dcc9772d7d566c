use Rattle.jumps.proofs.Keys.{keyed_all}
use Rattle.jumps.proofs.runs.Trial.fill_keys.Goals as goal

pub returns : goal.returns
returns c = keyed_all c.loop-i.invariant c.loop-i-test.false
