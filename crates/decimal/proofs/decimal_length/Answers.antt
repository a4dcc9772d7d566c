-- `decimal::decimal_length` meets its contract: a number has one digit more than it reaches powers of ten.
use native.Mathlib.Omega.{arith}
use Rattle.decimal.proofs.Decimal.{reached, decimal_reached}
use Rattle.decimal.proofs.decimal_length.Goals as goal

pub returns : goal.returns
unfolding reached
returns c =
    omega (arith, decimal_reached c.args.x c.ranges.x.fits)
