use Prim.Native.Nat.{◌+◌, ◌-◌}
use mathlib.Core.Path.{◌≡◌}
use native.Mathlib.Omega.{arith}
use lib.Seq.{drop-length}
use Rattle.prelude.specs.Pairs.{paired}
use Rattle.lines.specs.Lines.{pair_lines}
use Rattle.decimal.proofs.Added.{none, before, kept}
use Rattle.lines.proofs.LineLaws.{lines_at, line_fits}
use Rattle.lines.proofs.put_pairs_before.Goals as goal

pub loop-i-init : goal.loop-i-init
unfolding pair_lines paired
loop-i-init c = rw (drop-length c.args.codes.now) (none _ _ (omega arith))

pub put_pair_before-begin-requires : goal.put_pair_before-begin-requires
put_pair_before-begin-requires c =
    let next : c.loop-i.i - 1 + 1 ≡ c.loop-i.i = omega arith in
    let fits = line_fits c.args.separator c.args.codes.now c.args.schedules.now (c.loop-i.i - 1) (omega arith) c.requires.schedules_len in
    omega (arith, rw next at fits, c.loop-i.invariant.place, kept c.loop-i.invariant)

pub loop-i-preserved : goal.loop-i-preserved
loop-i-preserved c =
    let next : c.loop-i.i - 1 + 1 ≡ c.loop-i.i = omega arith in
    let line = lines_at c.args.separator c.args.codes.now c.args.schedules.now (c.loop-i.i - 1) (omega arith) c.requires.schedules_len in
    rw (line, next) (before c.loop-i.invariant c.put_pair_before-begin.ensures)
