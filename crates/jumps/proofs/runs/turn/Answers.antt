-- `jumps::runs::turn` meets its contract.
use Prim.Native.Nat.{◌-◌, ◌%◌}
use mathlib.Core.Path.{refl}
use native.Mathlib.Nat.{mod-lt}
use borrow.Author.Tests.{le-leb, lt-leb}
use Rattle.jumps.specs.code.Jumps.{turn}
use Rattle.jumps.proofs.runs.turn.Goals as goal

pub returns-then-s-down : goal.returns-then-s-down
unfolding turn
returns-then-s-down c = rw (le-leb c.args.s (c.args.p - c.args.s) c.if-s-down.true) (refl, mod-lt c.args.s c.requires.1)

pub returns : goal.returns
unfolding turn
returns c =
    rw (lt-leb c.args.s (c.args.p - c.args.s) c.if-s-down.false)
    (refl, mod-lt (c.args.w - (c.args.p - c.args.s) % c.args.w) c.requires.1)
