use Prim.Native.Nat.{◌<◌}
use mathlib.Core.Bool.{◌||◌}
use mathlib.Core.Path.{sym, ap₂, ◌∙◌}
use native.Mathlib.Omega.{arith}
use lib.ListN.{length}
use Rattle.prelude.proofs.Some.{some_next, some_end}
use Rattle.audit.proofs.Occupied.{listed_below, listed_misplaced}
use Rattle.audit.proofs.blocks.some_misplaced.Goals as goal

pub bounds-part-t : goal.bounds-part-t
bounds-part-t c =
    let within : c.from-t.result < length c.args.part.now = omega (arith, c.from-t.ensures, listed_below c.args.part.now c.args.list.now c.loop-place.place-index c.requires.1 (omega arith)) in
    within

pub not_own-found-requires : goal.not_own-found-requires
not_own-found-requires c =
    let within : c.from-t.result < length c.args.part.now = omega (arith, c.from-t.ensures, listed_below c.args.part.now c.args.list.now c.loop-place.place-index c.requires.1 (omega arith)) in
    record {
      a_lt_prime = c.requires.0.codes_below _ within;
      multiplier_lt_prime = (c.requires.0.below, omega (arith, c.requires.0.cells_are));
    }

pub loop-place-preserved : goal.loop-place-preserved
loop-place-preserved c =
    ap₂ ◌||◌ c.loop-place.invariant (rw c.from-t.ensures at c.not_own-found.ensures) ∙ sym (some_next _ _)

pub returns : goal.returns
returns c =
    some_end _ _ _ (omega arith) (omega arith) c.loop-place.invariant ∙ listed_misplaced _ _ c.args.part.now _ c.requires.1
