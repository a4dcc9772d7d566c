use native.Mathlib.Omega.{arith}
use Rattle.prelude.proofs.Tabulate.{tabulated_none, tabulated_more}
use Rattle.digests.specs.Lent.{counted_at, counted_from}
use Rattle.digests.proofs.Filling.{tabulated_whole, counted_next}
use Rattle.digests.proofs.lent.count_from.Goals as goal

pub loop-word-init : goal.loop-word-init
loop-word-init c = (tabulated_none (counted_at c.args.first) c.args.words.now, omega (arith, c.ranges.first.fits))

pub loop-word-preserved : goal.loop-word-preserved
loop-word-preserved c =
    let next = c.loop-word.invariant.1 in
    (rw (← next) at (tabulated_more c.loop-word.invariant.0 c.loop-word-test.true), rw next (counted_next c.args.first c.loop-word.word-index))

pub returns : goal.returns
unfolding counted_from
returns c = tabulated_whole (counted_at c.args.first) c.loop-word.invariant.0 c.loop-word-test.false
