use mathlib.Core.Logic.{◌⊎◌, inl, inr}
use mathlib.Core.Path.{◌≡◌}
use native.Mathlib.Omega.{arith}
use lib.ListN.{length}
use Rattle.decimal.proofs.Decimal.{decimal_few}
use Rattle.lines.proofs.LineLaws.{counted_more, counted_few, counted_all, paired_more, paired_none}
use Rattle.lines.proofs.pairs_length.Goals as goal

pub overflow_add-sum : goal.overflow_add-sum
overflow_add-sum c = omega (arith, c.decimal_length.ensures, decimal_few c.in-Some.field-0-0.now)

pub overflow_add-sum-in-loop-code : goal.overflow_add-sum-in-loop-code
overflow_add-sum-in-loop-code c =
    omega (
      arith,
      c.decimal_length.ensures,
      c.decimal_length-in-loop-code.ensures,
      decimal_few c.in-Some.field-0-0.now,
      decimal_few c.in-Some.field-0-1.now,
    )

pub overflow_add-sum-in-loop-code-2 : goal.overflow_add-sum-in-loop-code-2
overflow_add-sum-in-loop-code-2 c =
    omega (
      arith,
      counted_few c.args.codes.now c.args.schedules.now c.loop-code.invariant c.requires.codes_len_bound,
      c.decimal_length.ensures,
      c.decimal_length-in-loop-code.ensures,
      decimal_few c.in-Some.field-0-0.now,
      decimal_few c.in-Some.field-0-1.now,
    )

pub loop-code-preserved : goal.loop-code-preserved
loop-code-preserved c =
    let next = paired_more c.in-Some.ensures.steps.0 c.in-Some.ensures.steps.1 in
    counted_more (rw next at c.loop-code.invariant) c.decimal_length.ensures c.decimal_length-in-loop-code.ensures

pub returns : goal.returns
returns c =
    let codes = c.loop-code.code-iterator.a.rest.now in
    let schedules = c.loop-code.code-iterator.b.rest.now in
    let ended : (length codes ≡ 0) ⊎ (length schedules ≡ 0) = elim c.in-None.ensures.steps [ inl (x, a) ↦ inl a.0 | inr (x, b) ↦ inr b.0 ] in
    counted_all (rw (paired_none codes schedules ended) at c.loop-code.invariant)
