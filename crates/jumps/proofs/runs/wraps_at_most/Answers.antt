-- `jumps::runs::wraps_at_most` meets its contract: the product of two words, and a word more, fit 64 bits.
use Prim.Native.Nat.{◌-◌}
use mathlib.Core.Path.{refl}
use borrow.Author.Tests.{le-leb, lt-leb}
use Rattle.jumps.specs.code.Jumps.{wraps_at_most}
use Rattle.jumps.proofs.runs.wraps_at_most.Goals as goal

pub returns-then-s-down : goal.returns-then-s-down
unfolding wraps_at_most
returns-then-s-down c =
    rw (
      le-leb c.args.s (c.args.p - c.args.s) c.if-s-down.true,
      c.from.ensures,
      c.from-2.ensures,
      c.from-then-s-down.ensures,
      c.from-then-s-down-2.ensures,
      c.from-then-s-down-3.ensures,
      c.from-then-s-down-4.ensures,
    ) refl

pub returns : goal.returns
unfolding wraps_at_most
returns c =
    rw (
      lt-leb c.args.s (c.args.p - c.args.s) c.if-s-down.false,
      c.from.ensures,
      c.from-2.ensures,
      c.from-3.ensures,
      c.from-4.ensures,
      c.from-5.ensures,
    ) refl
