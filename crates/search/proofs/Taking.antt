-- A block's codes, tested from the last to the first for cells that are shared: the cells taken are a bit set in one number.
use Prim.Native.Nat.{ℕ, ◌+◌, ◌-◌, ◌^◌, ◌<◌, ◌≤◌}
use native.Mathlib.Decide.{ℕ_discrete}
use native.Mathlib.Nat.{div-le_self}
use native.Mathlib.Omega.{arith}
use mathlib.Core.List.{List, ◌∷◌}
use mathlib.Core.Path.{◌≡◌, refl, sym, ap, ap₂, ◌∙◌}
use borrow.Author.Tests.{eq-eqb, ne_eqb}
use lib.Bits.{bit_and, bit_or, or_zero_l}
use lib.Dec.{eqb}
use lib.ListN.{length, get_or, drop}
use lib.Seq.{drop-length}
use Rattle.hash.specs.Hash.{hash_of, load, together}
use Rattle.hash.proofs.BitSets.{has, or_none, put_same, put_other, none_common, not_common}
use Rattle.hash.proofs.Indicators.{indicator_eq, indicator_ne}
use Rattle.jumps.proofs.Ends.{drop_before}

-- the codes from i on are tested
pub record Taking (p q w : ℕ) (block : List ℕ) (i taken shared : ℕ) : Type 0 where
  pub left : i ≤ length block
  pub inside : (t : ℕ) → 0 < load p q w t (drop i block) → has taken t ≡ 1
  pub outside : (t : ℕ) → load p q w t (drop i block) ≡ 0 → has taken t ≡ 0
  pub apart : shared ≡ 0 → together p q w (drop i block) ≡ 0
  pub meet : together p q w (drop i block) ≡ 0 → shared ≡ 0

pub taking_start : (p q w : ℕ) (block : List ℕ) → Taking p q w block (length block) 0 0
unfolding load together
taking_start p q w block =
    record {
      left = omega arith;
      inside = λ t some. absurd (omega (arith, rw (drop-length block) at some));
      outside = λ t none. omega (arith, div-le_self 0 (2 ^ t));
      apart = λ e. rw (drop-length block) refl;
      meet = λ e. refl;
    }

module _
    {p q w : ℕ} {block : List ℕ} {i taken shared : ℕ} (h : Taking p q w block i taken shared) (pos : 0 < i) (t : ℕ)
    (own : t ≡ hash_of p q w (get_or block (i - 1) 0)) (bit : ℕ) (is : bit ≡ 2 ^ t)
  where
    load_is : (u : ℕ) → load p q w u (drop (i - 1) block) ≡ load p q w u (get_or block (i - 1) 0 ∷ drop i block)
    load_is u = ap (load p q w u) (drop_before block i pos h.left)

    load_own : load p q w t (drop (i - 1) block) ≡ 1 + load p q w t (drop i block)
    unfolding load
    load_own = load_is t ∙ rw (← own) (omega (arith, indicator_eq t t refl))

    load_other : (u : ℕ) → (u ≡ t → ⊥) → load p q w u (drop (i - 1) block) ≡ load p q w u (drop i block)
    unfolding load
    load_other u ne = load_is u ∙ rw (← own) (omega (arith, indicator_ne t u (λ e. ne (sym e))))

    together_is : together p q w (drop (i - 1) block) ≡ load p q w t (drop i block) + together p q w (drop i block)
    unfolding together
    together_is = ap (together p q w) (drop_before block i pos h.left) ∙ rw (← own) refl

    pub taking_more : Taking p q w block (i - 1) (bit_or taken bit) (bit_or shared (bit_and taken bit))
    taking_more =
        record {
          left = omega (arith, h.left);
          inside = λ u some.
              elim (ℕ_discrete u t) [
                | yes e ↦ rw (e, is) (put_same taken t)
                | no ne ↦ rw is (put_other taken t u ne ∙ h.inside u (omega (arith, load_other u ne)))
              ];
          outside = λ u none.
              elim (ℕ_discrete u t) [
                | yes e ↦ absurd (omega (arith, load_own, rw e at none))
                | no ne ↦ rw is (put_other taken t u ne ∙ h.outside u (omega (arith, load_other u ne)))
              ];
          apart = λ e.
              let (earlier, free) = or_none shared (bit_and taken bit) e in
              elim (ℕ_discrete (load p q w t (drop i block)) 0) [
                | yes none ↦ omega (arith, together_is, h.apart earlier)
                | no some ↦ absurd (none_common taken t (ap (bit_and taken) (sym is) ∙ free) (h.inside t (omega arith)))
              ];
          meet = λ e.
              let none : load p q w t (drop i block) ≡ 0 = omega (arith, together_is) in
              let earlier : shared ≡ 0 = h.meet (omega (arith, together_is)) in
              let free : bit_and taken bit ≡ 0 = ap (bit_and taken) is ∙ not_common taken t (h.outside t none) in
              ap₂ bit_or earlier free ∙ or_zero_l 0;
        }

pub taking_all :
    {p q w : ℕ} {block : List ℕ} {i taken shared : ℕ} → Taking p q w block i taken shared → i ≤ 0
    → eqb shared 0 ≡ eqb (together p q w block) 0
taking_all {p} {q} {w} {block} {i} {taken} {shared} h end =
    let none : i ≡ 0 = omega arith in
    let e : together p q w (drop i block) ≡ together p q w block = ap (λ (j : ℕ). together p q w (drop j block)) none in
    elim (ℕ_discrete shared 0) [
      | yes z ↦ eq-eqb shared 0 z ∙ sym (eq-eqb (together p q w block) 0 (sym e ∙ h.apart z))
      | no nz ↦ ne_eqb shared 0 nz ∙ sym (ne_eqb (together p q w block) 0 (λ z. nz (h.meet (e ∙ z))))
    ]
