-- `jumps::starts::start` meets its contract: with so many remainders and quotients the codes are crowded, for every multiplier before the answer.
use Prim.Native.Nat.{◌<◌}
use native.Mathlib.Omega.{arith}
use Rattle.jumps.proofs.Crowding.{ends_apart, passed_crowded}
use Rattle.jumps.proofs.starts.start.Goals as goal

pub after-requires : goal.after-requires
after-requires c =
    let found = c.quotients-b.ensures in
    let more : 1 < c.quotients-b.result = omega (arith, found.some, c.if-b-eq1.false) in (
      omega (arith, c.requires.codes.1.1.1),
      (
        omega arith,
        omega (
          arith,
          ends_apart c.args.most c.requires.codes.0 c.requires.w_nonzero.0 c.extremes-ends.ensures c.common_step.ensures more (found.crowds more),
        ),
      ),
    )

pub returns : goal.returns
returns c =
    let found = c.quotients-b.ensures in
    let more : 1 < c.quotients-b.result = omega (arith, found.some, c.if-b-eq1.false) in (
      passed_crowded (omega (arith, c.requires.codes.1.1.1)) c.requires.w_nonzero.0 c.extremes-ends.ensures c.common_step.ensures found.some
          (found.crowds more) c.after.ensures,
      c.after.ensures.within,
    )
