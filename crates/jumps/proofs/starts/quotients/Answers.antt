use Prim.Native.Nat.{◌+◌, ◌*◌}
use mathlib.Core.Path.{sym, ◌∙◌}
use native.Mathlib.Nat.{mul-le-mul_right}
use native.Mathlib.Omega.{arith}
use Rattle.jumps.proofs.Crowding.{crowded_le}
use Rattle.jumps.proofs.starts.quotients.Goals as goal

pub loop-b-preserved : goal.loop-b-preserved
loop-b-preserved c =
    let crowded = sym c.crowds.ensures ∙ c.loop-b-test.true in
    let some = mul-le-mul_right (c.loop-b.b + 1) c.requires.1.1.0 in (
      omega (arith, crowded_le c.args.n c.args.most (c.args.remainders * (c.loop-b.b + 1)) (omega arith) crowded),
      record { some = omega arith; crowds = λ more. crowded },
    )

pub loop-b-smaller : goal.loop-b-smaller
loop-b-smaller c = omega (arith, (loop-b-preserved c).0)
