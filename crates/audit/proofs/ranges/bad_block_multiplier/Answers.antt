-- `audit::ranges::bad_block_multiplier` meets its contract.
use Rattle.audit.specs.Check.{bad_block_multiplier}
use Rattle.audit.proofs.ranges.bad_block_multiplier.Goals as goal

pub returns : goal.returns
unfolding bad_block_multiplier
returns c = rw (← c.block_multiplier.ensures) c.outside.ensures
