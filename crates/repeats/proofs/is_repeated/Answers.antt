-- `repeats::is_repeated` meets its contract: a code is repeated where it is among those before it.
use Rattle.repeats.specs.Repeated.{repeated}
use Rattle.repeats.proofs.is_repeated.Goals as goal

pub returns : goal.returns
unfolding repeated
returns c = c.is_among.ensures
