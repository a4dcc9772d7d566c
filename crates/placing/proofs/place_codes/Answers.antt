use Prim.Native.Nat.{ℕ, ◌<◌}
use mathlib.Core.Path.{refl, sym, ap, ◌∙◌}
use native.Mathlib.Omega.{arith}
use lib.ListN.{length-set, replicate}
use Rattle.placing.proofs.Placing.{placed_start, placed_more, noted_more}
use Rattle.placing.proofs.place_codes.Goals as goal

pub loop-i-init : goal.loop-i-init
loop-i-init c =
    let zeros = c.requires.places_value.1 ∙ ap (λ (n : ℕ). replicate n 0) (sym c.requires.places_value.0) in
    (placed_start _ _ _ zeros, ((λ j l m. absurd (omega arith)), (refl, refl)))

pub loop-i-preserved : goal.loop-i-preserved
loop-i-preserved c =
    let within : c.wide.result < c.args.h.places = omega (arith, c.wide.ensures.value, c.place_of-t.ensures.range) in (
      placed_more c.loop-i.invariant.0 refl c.loop-i-test.true c.wide.result (c.wide.ensures.value ∙ c.place_of-t.ensures.value) within,
      (
        noted_more _ c.loop-i.places c.loop-i.invariant.1.0 _ c.place_of-t.ensures.value,
        (simp length-set c.loop-i.invariant.1.1.0, simp length-set c.loop-i.invariant.1.1.1),
      ),
    )
