use Prim.Native.Nat.{◌-◌, ◌<◌}
use mathlib.Core.Path.{refl}
use native.Mathlib.Omega.{arith}
use lib.ListN.{length, length-set}
use Rattle.placing.proofs.Placing.{placed_start, placed_more}
use Rattle.placing.proofs.scatter.Goals as goal

pub loop-i-init : goal.loop-i-init
loop-i-init c =
    (placed_start _ _ _ c.requires.cells_value, refl)

pub loop-i-preserved : goal.loop-i-preserved
loop-i-preserved c =
    let within : c.wide.result < length c.args.cells.now = omega (arith, c.wide.ensures.value, c.requires.scattering.within (c.loop-i.i - 1) (omega arith)) in (
      placed_more c.loop-i.invariant.0 c.requires.scattering.parallel c.loop-i-test.true c.wide.result c.wide.ensures.value within,
      simp length-set c.loop-i.invariant.1,
    )
