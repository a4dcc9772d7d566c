-- Finite sums f 0 + .. + f (n - 1): exchanged, bounded, and read back from their mean.
use Prim.Native.Nat.{ℕ, zero, suc, ◌+◌, ◌*◌, ◌<◌, ◌≤◌}
use native.Mathlib.Nat.{add-le-add}
use native.Mathlib.Decide.{ℕ_discrete, dec_le}
use native.Mathlib.Omega.{arith}
use mathlib.Core.Bool.{Bool, true}
use mathlib.Core.Logic.{inl, inr}
use mathlib.Core.Path.{◌≡◌, refl, ap, ap₂, ◌∙◌}
use lib.Dec.{eqb}
use Rattle.hash.specs.Hash.{sum}
use Rattle.hash.proofs.Indicators.{indicator, true_or_false, indicator_false, indicator_le, indicator_eq, indicator_ne}

-- ---- sums that are equal

pub sum_ext : (f g : ℕ → ℕ) (n : ℕ) → ((i : ℕ) → i < n → f i ≡ g i) → sum f n ≡ sum g n
unfolding sum
sum_ext f g zero h = refl
sum_ext f g (suc n) h = ap₂ ◌+◌ (sum_ext f g n (λ i l. h i (omega arith))) (h n (omega arith))

pub sum_add : (f g : ℕ → ℕ) (n : ℕ) → sum (λ i. f i + g i) n ≡ sum f n + sum g n
unfolding sum
sum_add f g zero = refl
sum_add f g (suc n) = omega (arith, sum_add f g n)

pub sum_times : (c : ℕ) (f : ℕ → ℕ) (n : ℕ) → sum (λ i. c * f i) n ≡ c * sum f n
unfolding sum
sum_times c f zero = omega arith
sum_times c f (suc n) = omega (arith, sum_times c f n)

pub sum_const : (c n : ℕ) → sum (λ i. c) n ≡ n * c
unfolding sum
sum_const c zero = omega arith
sum_const c (suc n) = omega (arith, sum_const c n)

pub sum_swap : (g : ℕ → ℕ → ℕ) (n m : ℕ) → sum (λ i. sum (λ j. g i j) m) n ≡ sum (λ j. sum (λ i. g i j) n) m
unfolding sum
sum_swap g zero m = omega (arith, sum_const 0 m)
sum_swap g (suc n) m = omega (arith, sum_swap g n m, sum_add (λ j. sum (λ i. g i j) n) (g n) m)

-- ---- sums that are bounded

pub sum_mono : (f g : ℕ → ℕ) (n : ℕ) → ((i : ℕ) → i < n → f i ≤ g i) → sum f n ≤ sum g n
unfolding sum
sum_mono f g zero h = omega arith
sum_mono f g (suc n) h = add-le-add (sum_mono f g n (λ i l. h i (omega arith))) (h n (omega arith))

-- n terms of at most c
pub sum_at_most : (f : ℕ → ℕ) (c n : ℕ) → ((i : ℕ) → i < n → f i ≤ c) → sum f n ≤ n * c
sum_at_most f c n h = omega (arith, sum_mono f (λ i. c) n h, sum_const c n)

-- a term is at most the sum
pub sum_member : (f : ℕ → ℕ) (n i : ℕ) → i < n → f i ≤ sum f n
unfolding sum
sum_member f zero i h = omega arith
sum_member f (suc n) i h =
    elim (ℕ_discrete i n) [
      | yes e ↦ omega (arith, ap f e)
      | no ne ↦ omega (arith, sum_member f n i (omega arith))
    ]

-- some term is at most the mean
pub sum_mean : (f : ℕ → ℕ) (c n : ℕ) → sum f n < n * suc c → (i : ℕ) × (i < n) × (f i ≤ c)
unfolding sum
sum_mean f c zero h = absurd (omega arith)
sum_mean f c (suc n) h =
    elim (dec_le (f n) c) [
      | yes le ↦ (n, omega arith, le)
      | no gt ↦ let r : (i : ℕ) × (i < n) × (f i ≤ c) = sum_mean f c n (omega arith) in (r.0, omega arith, r.2)
    ]

-- ---- sums of indicators

-- the indicator of one place picks the term there
pub sum_pick : (f : ℕ → ℕ) (h n : ℕ) → h < n → sum (λ t. indicator (eqb h t) * f t) n ≡ f h
unfolding sum
sum_pick f h zero l = omega arith
sum_pick f h (suc n) l =
    elim (ℕ_discrete h n) [
      | yes e ↦
          let below : sum (λ t. indicator (eqb h t) * f t) n ≤ n * 0 =
          sum_at_most (λ t. indicator (eqb h t) * f t) 0 n
          (λ i le. omega (arith, ap (λ (x : ℕ). x * f i) (indicator_ne h i (omega arith)))) in
          omega (arith, ap (λ (x : ℕ). x * f n) (indicator_eq h n e), ap f e)
      | no ne ↦ omega (arith, ap (λ (x : ℕ). x * f n) (indicator_ne h n ne), sum_pick f h n (omega arith))
    ]

pub sum_one : (h n : ℕ) → h < n → sum (λ t. indicator (eqb h t)) n ≡ 1
sum_one h n l =
    sum_ext (λ t. indicator (eqb h t)) (λ t. indicator (eqb h t) * 1) n (λ t m. omega arith)
    ∙ sum_pick (λ t. 1) h n l

-- a test that passes at most once counts for at most 1
pub sum_once :
    (t : ℕ → Bool) (n : ℕ) → ((i j : ℕ) → i < j → j < n → t i ≡ true → t j ≡ true → ⊥)
    → sum (λ i. indicator (t i)) n ≤ 1
unfolding sum
sum_once t zero once = omega arith
sum_once t (suc n) once =
    elim (true_or_false (t n)) [
      | inl e ↦ omega (arith, indicator_le (t n), sum_at_most (λ i. indicator (t i)) 0 n (before e))
      | inr e ↦
          omega (arith, indicator_false (t n) e, sum_once t n (λ i j l h. once i j l (omega arith)))
    ]
  where
    before : t n ≡ true → (i : ℕ) → i < n → indicator (t i) ≤ 0
    before e i l =
        elim (true_or_false (t i)) [ inl p ↦ absurd (once i n l (omega arith) p e) | inr p ↦ omega (arith, indicator_false (t i) p) ]

-- the first a, and the b after them
pub sum_split : (f : ℕ → ℕ) (a b : ℕ) → sum f (a + b) ≡ sum f a + sum (λ i. f (a + i)) b
unfolding sum
sum_split f a zero =
    let e : a + zero ≡ a = omega arith in
    omega (arith, ap (sum f) e)
sum_split f a (suc b) =
    let e : a + suc b ≡ suc (a + b) = omega arith in
    omega (arith, ap (sum f) e, sum_split f a b)
