use mathlib.Core.Path.{sym, ◌∙◌}
use native.Mathlib.Omega.{arith}
use Rattle.prelude.proofs.First.{below_none, below_next}
use Rattle.prelude.proofs.Where.{where_found, where_none}
use Rattle.repeats.specs.Repeated.{repeated}
use Rattle.repeats.proofs.first_in_few.Goals as goal

pub loop-i-init : goal.loop-i-init
loop-i-init c = below_none (repeated c.args.codes.now)

pub loop-i-preserved : goal.loop-i-preserved
loop-i-preserved c = below_next (repeated c.args.codes.now) c.loop-i.i c.loop-i.invariant (sym c.is_repeated.ensures ∙ c.if-is_repeated.false)

pub returns-then-is_repeated : goal.returns-then-is_repeated
returns-then-is_repeated c =
    sym (where_found _ (repeated c.args.codes.now) c.loop-i.i c.loop-i-test.true c.loop-i.invariant (sym c.is_repeated.ensures ∙ c.if-is_repeated.true))

pub returns : goal.returns
returns c = sym (where_none _ (repeated c.args.codes.now) (λ j l. c.loop-i.invariant j (omega (arith, c.loop-i-test.false))))
