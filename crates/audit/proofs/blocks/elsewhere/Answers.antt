-- `audit::blocks::elsewhere` meets its contract.
use mathlib.Core.Path.{refl}
use Rattle.audit.specs.code.Blocks.{elsewhere}
use Rattle.audit.proofs.blocks.elsewhere.Goals as goal

pub returns : goal.returns
unfolding elsewhere
returns c = rw (← c.place_of.ensures.value) refl
