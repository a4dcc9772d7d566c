use mathlib.Core.Bool.{◌||◌}
use mathlib.Core.Path.{sym, ap₂, ◌∙◌}
use native.Mathlib.Omega.{arith}
use Rattle.prelude.proofs.First.{below_next}
use Rattle.prelude.proofs.Some.{some_one, some_next}
use Rattle.prelude.proofs.Where.{where_found, where_none}
use Rattle.audit.proofs.ranges.first_where.Goals as goal

pub loop-i-init : goal.loop-i-init
loop-i-init g c f is = is 0 _ (omega arith) c.test-found.ensures ∙ sym (some_one f)

pub loop-i-preserved : goal.loop-i-preserved
loop-i-preserved g c f is =
    ap₂ ◌||◌ (c.loop-i.invariant f is) (is c.loop-i.i _ c.loop-i-test.true c.test-found-in-loop-i.ensures) ∙ sym (some_next c.loop-i.i f)

pub returns-then-test : goal.returns-then-test
returns-then-test g c f is =
    sym (where_found c.args.n f c.loop-i-2.i c.loop-i-2-test.true (c.loop-i-2.invariant f is) (sym (is c.loop-i-2.i _ c.loop-i-2-test.true c.test.ensures) ∙ c.if-test.true))

pub loop-i-2-preserved : goal.loop-i-2-preserved
loop-i-2-preserved g c f is =
    below_next f c.loop-i-2.i (c.loop-i-2.invariant f is) (sym (is c.loop-i-2.i _ c.loop-i-2-test.true c.test.ensures) ∙ c.if-test.false)

pub returns : goal.returns
returns g c f is = sym (where_none c.args.n f (λ j l. c.loop-i-2.invariant f is j (omega arith)))
