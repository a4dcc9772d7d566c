use native.Mathlib.Omega.{arith}
use lib.ListN.{get_or}
use Rattle.reader.proofs.Gathering.{counts, gathering_more, gathering_next}
use Rattle.reader.proofs.gather.gather_others.Goals as goal

pub bounds-cells-i : goal.bounds-cells-i
bounds-cells-i c = gathering_more _ c.loop-k.invariant c.loop-k-test.true

pub bounds-held-i : goal.bounds-held-i
bounds-held-i c =
    omega (arith, gathering_more _ c.loop-k.invariant c.loop-k-test.true, c.loop-k.invariant.same)

pub loop-k-smaller : goal.loop-k-smaller
loop-k-smaller c = omega (arith, gathering_more _ c.loop-k.invariant c.loop-k-test.true)

pub loop-k-preserved : goal.loop-k-preserved
loop-k-preserved c = rw (counts c.args.code (get_or c.args.cells.now c.loop-k.i 0) c.from-k.ensures c.is_other.ensures) (gathering_next _ c.loop-k.invariant c.loop-k-test.true)
