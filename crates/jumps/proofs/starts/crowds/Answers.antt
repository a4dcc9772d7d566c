-- `jumps::starts::crowds` meets its contract: with at most 2048 codes the products fit.
use mathlib.Core.Path.{refl}
use Rattle.jumps.specs.code.Starts.{crowded}
use Rattle.jumps.proofs.starts.crowds.Goals as goal

pub returns : goal.returns
unfolding crowded
returns c = refl
