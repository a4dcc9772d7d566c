-- `jumps::runs::wrapped` meets its contract.
use Prim.Native.Nat.{◌-◌, ◌+◌, ◌%◌}
use mathlib.Core.Path.{refl}
use native.Mathlib.Nat.{mod-lt}
use borrow.Author.Tests.{le-leb, lt-leb}
use Rattle.jumps.specs.code.Jumps.{wrapped}
use Rattle.jumps.proofs.runs.wrapped.Goals as goal

pub returns-then-s-down : goal.returns-then-s-down
unfolding wrapped
returns-then-s-down c =
    rw (le-leb c.args.s (c.args.p - c.args.s) c.if-s-down.true) (refl, mod-lt (c.args.r % c.args.w + (c.args.w - c.args.p % c.args.w)) c.requires.1.0)

pub returns : goal.returns
unfolding wrapped
returns c =
    rw (lt-leb c.args.s (c.args.p - c.args.s) c.if-s-down.false) (refl, mod-lt (c.args.r % c.args.w + c.args.p % c.args.w) c.requires.1.0)
