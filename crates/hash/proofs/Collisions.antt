-- Source 000, lemma 1, for one pair of codes x and y: at most 2 * ((p - 1) / w) of the multipliers put them together.
-- Where k puts them together, the remainders of k * x and k * y by p differ by a multiple j * w, j from 1 to (p - 1) / w,
-- one way or the other. Of each of these differences there is at most one k, by Euclid's lemma. The count is a sum over
-- k and j, exchanged.
use Prim.Native.Nat.{ℕ, suc, ◌+◌, ◌*◌, ◌-◌, ◌/◌, ◌%◌, ◌<◌, ◌≤◌}
use native.Mathlib.Nat.{mod-lt, div-add-mod', le-div_iff_mul-le, lt_of_mul-lt-mul_right, le_dest}
use native.Mathlib.Decide.{ℕ_discrete, dec_le}
use native.Mathlib.Omega.{arith}
use mathlib.Core.Bool.{Bool, true}
use mathlib.Core.Logic.{inl, inr}
use mathlib.Core.Path.{◌≡◌, sym, ap}
use lib.Dec.{eqb}
use borrow.Author.Tests.{eqb-true}
use Rattle.hash.specs.Hash.{hash_of, sum}
use Rattle.hash.specs.Theorems.{Prime, collides}
use Rattle.hash.proofs.Primes.{mod_same, times_inj}
use Rattle.hash.proofs.Indicators.{indicator, true_or_false, indicator_false, indicator_le, indicator_eq}
use Rattle.hash.proofs.Sums.{sum_mono, sum_add, sum_swap, sum_at_most, sum_member, sum_once}

-- two numbers with the same remainder by w, of which u is the larger and below p, differ by j * w, j from 1 to (p - 1) / w
pub gap : (p w u v : ℕ) → 0 < w → u < p → v < u → u % w ≡ v % w → (j : ℕ) × (j < (p - 1) / w) × (u ≡ v + suc j * w)
gap p w u v pos below lt e =
    let (j, q) =
    le_dest {n = suc (v / w)} {m = u / w}
    (lt_of_mul-lt-mul_right w (omega (arith, div-add-mod' u w, div-add-mod' v w))) in
    let is : u ≡ v + suc j * w = omega (arith, div-add-mod' u w, div-add-mod' v w, ap (λ (n : ℕ). n * w) q) in
    (j, (le-div_iff_mul-le pos).1 (omega arith), is)

-- the remainder of k * x by p is that of k * y and j + 1 times w
ahead : ℕ → ℕ → ℕ → ℕ → ℕ → ℕ → Bool
ahead p w x y j k = eqb ((k * x) % p) ((k * y) % p + suc j * w)

-- over all differences: is it ahead by one of them?
aheads : ℕ → ℕ → ℕ → ℕ → ℕ → ℕ
aheads p w x y k = sum (λ j. indicator (ahead p w x y j k)) ((p - 1) / w)

-- it is, where k puts the two together and that of k * x is larger
ahead_one :
    (p w x y k : ℕ) → 0 < w → 0 < p → (k * y) % p < (k * x) % p → hash_of p k w x ≡ hash_of p k w y → 1 ≤ aheads p w x y k
unfolding ahead aheads hash_of
ahead_one p w x y k wpos ppos lt e =
    let (j, l, is) = gap p w ((k * x) % p) ((k * y) % p) wpos (mod-lt (k * x) ppos) lt e in
    omega (
      arith,
      sum_member (λ i. indicator (ahead p w x y i k)) ((p - 1) / w) j l,
      indicator_eq ((k * x) % p) ((k * y) % p + suc j * w) is,
    )

module _ {p : ℕ} (prime : Prime p) where
  -- k * x and k * y have remainders by p that differ by e, for two multipliers: then x ≡ y
  apart_once :
      (x y e i k : ℕ) → i < k → k < p → x < p → y < p → (i * x) % p ≡ (i * y) % p + e → (k * x) % p ≡ (k * y) % p + e → x ≡ y
  apart_once x y e i k lt below hx hy ei ek =
      let d : i + (k - i) ≡ k = omega arith in
      times_inj prime (k - i) x y (omega arith) (omega arith) hx hy
      (mod_same p ((k - i) * x) ((k - i) * y) (i * x / p + k * y / p) (k * x / p + i * y / p)
      (omega (
        arith,
        ap (λ (n : ℕ). n * x) d,
        ap (λ (n : ℕ). n * y) d,
        div-add-mod' (i * x) p,
        div-add-mod' (i * y) p,
        div-add-mod' (k * x) p,
        div-add-mod' (k * y) p,
      )))

  ahead_once :
      (w x y j a b : ℕ) → x < p → y < p → (x ≡ y → ⊥) → a < b → b < p - 1
      → ahead p w x y j (suc a) ≡ true → ahead p w x y j (suc b) ≡ true → ⊥
  unfolding ahead
  ahead_once w x y j a b hx hy differ lt below ta tb =
      differ
      (apart_once x y (suc j * w) (suc a) (suc b) (omega arith) (omega arith) hx hy (eqb-true _ _ ta) (eqb-true _ _ tb))

  -- so at most one multiplier for each difference
  aheads_count :
      (w x y : ℕ) → x < p → y < p → (x ≡ y → ⊥) → sum (λ i. aheads p w x y (suc i)) (p - 1) ≤ (p - 1) / w
  unfolding aheads
  aheads_count w x y hx hy differ =
      omega (
        arith,
        sum_swap (λ i j. indicator (ahead p w x y j (suc i))) (p - 1) ((p - 1) / w),
        sum_at_most (λ j. sum (λ i. indicator (ahead p w x y j (suc i))) (p - 1)) 1 ((p - 1) / w)
            (λ j l. sum_once (λ i. ahead p w x y j (suc i)) (p - 1) (λ a b. ahead_once w x y j a b hx hy differ)),
      )

  -- codes that are put together are ahead one way or the other, never level
  collides_le :
      (w x y k : ℕ) → 0 < w → x < p → y < p → (x ≡ y → ⊥) → 0 < k → k < p
      → collides p w x y k ≤ aheads p w x y k + aheads p w y x k
  unfolding collides
  collides_le w x y k pos hx hy differ kpos below =
      elim (true_or_false (eqb (hash_of p k w x) (hash_of p k w y))) [
        | inl e ↦
            let together : hash_of p k w x ≡ hash_of p k w y = eqb-true _ _ e in
            elim (ℕ_discrete ((k * x) % p) ((k * y) % p)) [
              | yes level ↦ absurd (differ (times_inj prime k x y kpos below hx hy level))
              | no uneven ↦
                  elim (dec_le ((k * x) % p) ((k * y) % p)) [
                    | yes le ↦ omega (arith, indicator_le (eqb (hash_of p k w x) (hash_of p k w y)), ahead_one p w y x k pos (omega arith) (omega arith) (sym together))
                    | no gt ↦ omega (arith, indicator_le (eqb (hash_of p k w x) (hash_of p k w y)), ahead_one p w x y k pos (omega arith) (omega arith) together)
                  ]
            ]
        | inr e ↦ omega (arith, indicator_false (eqb (hash_of p k w x) (hash_of p k w y)) e)
      ]

  pub collisions :
      (w x y : ℕ) → 0 < w → x < p → y < p → (x ≡ y → ⊥) → sum (λ i. collides p w x y (suc i)) (p - 1) ≤ 2 * ((p - 1) / w)
  collisions w x y pos hx hy differ =
      omega (
        arith,
        sum_mono (λ i. collides p w x y (suc i)) (λ i. aheads p w x y (suc i) + aheads p w y x (suc i)) (p - 1)
            (λ i l. collides_le w x y (suc i) pos hx hy differ (omega arith) (omega arith)),
        sum_add (λ i. aheads p w x y (suc i)) (λ i. aheads p w y x (suc i)) (p - 1),
        aheads_count w x y hx hy differ,
        aheads_count w y x hy hx (λ e. differ (sym e)),
      )
