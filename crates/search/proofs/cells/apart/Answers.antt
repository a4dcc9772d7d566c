use native.Mathlib.Omega.{arith}
use Rattle.hash.proofs.BitSets.{single_is}
use Rattle.search.proofs.Taking.{taking_start, taking_more}
use Rattle.search.proofs.cells.apart.Goals as goal

pub loop-i-init : goal.loop-i-init
loop-i-init c =
    taking_start _ _ _ _

pub loop-i-preserved : goal.loop-i-preserved
loop-i-preserved c =
    taking_more c.loop-i.invariant c.loop-i-test.true c.place_of.result c.place_of.ensures.value _
    (single_is c.place_of.result (omega (arith, c.place_of.ensures.range)))
