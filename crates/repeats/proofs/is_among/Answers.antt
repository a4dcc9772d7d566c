use mathlib.Core.Path.{refl}
use native.Mathlib.Numerals.{add-one}
use Rattle.prelude.specs.Pairs.{among}
use Rattle.prelude.proofs.Among.{among_suc}
use Rattle.repeats.proofs.is_among.Goals as goal

pub loop-code-init : goal.loop-code-init
unfolding among
loop-code-init c = refl

pub loop-code-preserved : goal.loop-code-preserved
loop-code-preserved c =
    rw (add-one c.loop-code.code-index, among_suc c.args.a c.args.codes.now c.loop-code.code-index c.loop-code-test.true, ← c.loop-code.invariant)
