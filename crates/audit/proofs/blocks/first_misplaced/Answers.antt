use mathlib.Core.Bool.{Bool, ◌&&◌}
use mathlib.Core.Path.{◌≡◌, sym, ap, ◌∙◌}
use native.Mathlib.Omega.{arith}
use Rattle.prelude.proofs.First.{below_next}
use Rattle.prelude.proofs.Where.{where_found, where_none}
use Rattle.audit.specs.code.Blocks.{holds, misplaced_in}
use Rattle.audit.proofs.blocks.first_misplaced.Goals as goal

pub returns-then-a-not_own : goal.returns-then-a-not_own
unfolding misplaced_in
returns-then-a-not_own c =
    let test_is : holds c.args.part.now c.loop-t.t && c.not_own.result ≡ misplaced_in c.args.h c.args.b c.args.part.now c.loop-t.t = ap (λ (x : Bool). holds c.args.part.now c.loop-t.t && x)
    c.not_own.ensures in
    sym (where_found _ _ _ c.loop-t-test.true c.loop-t.invariant (sym test_is ∙ c.if-a-not_own.true))

pub loop-t-preserved : goal.loop-t-preserved
unfolding misplaced_in
loop-t-preserved c =
    let test_is : holds c.args.part.now c.loop-t.t && c.not_own.result ≡ misplaced_in c.args.h c.args.b c.args.part.now c.loop-t.t = ap (λ (x : Bool). holds c.args.part.now c.loop-t.t && x)
    c.not_own.ensures in
    below_next _ _ c.loop-t.invariant (sym test_is ∙ c.if-a-not_own.false)

pub returns : goal.returns
returns c =
    sym (where_none _ _ (λ j l. c.loop-t.invariant j (omega arith)))
