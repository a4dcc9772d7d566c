use mathlib.Core.Path.{sym, ◌∙◌, ap}
use native.Mathlib.Omega.{arith}
use lib.ListN.{length}
use Rattle.decimal.proofs.Numbers.{digits_more, digits_end_lem}
use Rattle.decimal.proofs.number.digits_end.Goals as goal

pub loop-end-smaller : goal.loop-end-smaller
loop-end-smaller c =
    let more = digits_more c.args.text.now c.loop-end.end (omega arith) (sym c.is_ascii_digit.ensures.value ∙ c.loop-end-test.true) in
    omega (arith, ap length more)

pub loop-end-preserved : goal.loop-end-preserved
loop-end-preserved c =
    let more = digits_more c.args.text.now c.loop-end.end (omega arith) (sym c.is_ascii_digit.ensures.value ∙ c.loop-end-test.true) in
    omega (arith, ap length more)

pub returns : goal.returns
returns c =
    omega (arith, ap length (digits_end_lem c.args.text.now c.loop-end.end (omega arith) (sym c.is_ascii_digit.ensures.value ∙ c.loop-end-test.false)))
