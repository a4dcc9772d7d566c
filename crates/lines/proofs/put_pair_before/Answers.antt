-- `lines::put_pair_before` meets its contract: its pieces are those of the line, from the last to the first.
use native.Mathlib.Omega.{arith}
use Rattle.lines.specs.Lines.{pair_line}
use Rattle.decimal.proofs.Added.{before}
use Rattle.lines.proofs.LineLaws.{pair_length}
use Rattle.lines.proofs.put_pair_before.Goals as goal

pub put_before-schedule_end-requires : goal.put_before-schedule_end-requires
put_before-schedule_end-requires c =
    omega (arith, pair_length c.args.separator c.args.code c.args.schedule)

pub put_decimal_before-mid-requires : goal.put_decimal_before-mid-requires
put_decimal_before-mid-requires c =
    omega (arith, pair_length c.args.separator c.args.code c.args.schedule)

pub put_before-code_end-requires : goal.put_before-code_end-requires
put_before-code_end-requires c =
    omega (arith, pair_length c.args.separator c.args.code c.args.schedule)

pub put_decimal_before-requires : goal.put_decimal_before-requires
put_decimal_before-requires c =
    omega (arith, pair_length c.args.separator c.args.code c.args.schedule)

pub returns : goal.returns
unfolding pair_line
returns c =
    before (before (before c.put_before-schedule_end.ensures c.put_decimal_before-mid.ensures) c.put_before-code_end.ensures) c.put_decimal_before.ensures
