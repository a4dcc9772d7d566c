use mathlib.Core.Path.{◌≡◌}
use native.Mathlib.Omega.{arith}
use Rattle.std.specs.Prelude.{Some, None}
use Rattle.std.proofs.lemmas.Result.{err_from_is_err_and}
use Rattle.suppliers.specs.declared.read.TextError.TheVariants.{FaultyLine}
use Rattle.suppliers.specs.code.Scan.{line_end}
use Rattle.suppliers.proofs.Judging.{judging_fault, judging_later, judging_within, judging_more, judging_open, judging_all}
use Rattle.suppliers.proofs.scan.judge.Goals as goal

pub returns-in_err-at : goal.returns-in_err-at
returns-in_err-at c =
    let p = err_from_is_err_and c.from_residual.result c.from_residual.ensures.1 in
    let none : None ≡ line_end c.args.text.now c.loop-at.at = grind arith in
    let faulty : c.in_err-at.field-0.0 ≡ FaultyLine c.loop-at.lines = grind arith in
    rw (p.1, p.2, faulty) (judging_fault c.loop-at.invariant.0 (omega arith) none)

pub loop-at-smaller : goal.loop-at-smaller
loop-at-smaller c =
    let e : line_end c.args.text.now c.loop-at.at ≡ Some c.in_ok-at.at = grind arith in
    omega (arith, judging_later c.loop-at.invariant.0 (omega arith) e)

pub loop-at-preserved : goal.loop-at-preserved
loop-at-preserved c =
    let e : line_end c.args.text.now c.loop-at.at ≡ Some c.in_ok-at.at = grind arith in (
      judging_more c.loop-at.invariant.0 (omega arith) e,
      judging_within c.loop-at.invariant.0 (omega arith) e c.text_end-end.ensures c.loop-at-test.true,
    )

pub returns-then-end-text : goal.returns-then-end-text
returns-then-end-text c =
    judging_open c.loop-at.invariant.0 (omega arith) (λ i h. c.text_end-end.ensures.none_after i (omega arith))

pub returns : goal.returns
returns c =
    judging_all c.loop-at.invariant.0 (omega arith)
