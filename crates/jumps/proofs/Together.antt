-- Pairs that are put together, compared: what is together by one hash is together by another, and many codes in few places make many pairs.
use Prim.Native.Nat.{ℕ, zero, suc, ◌+◌, ◌*◌, ◌-◌, ◌<◌, ◌≤◌}
use native.Mathlib.Decide.{ℕ_discrete, dec_le, dec_lt}
use native.Mathlib.Nat.{le_refl, mul-le-mul, add-sub_of_le}
use native.Mathlib.Omega.{arith}
use mathlib.Core.Bool.{cond}
use mathlib.Core.List.{List, [], ◌∷◌}
use mathlib.Core.Path.{◌≡◌, refl, sym, ap, ◌∙◌}
use borrow.Author.Tests.{lt-ltb, le-ltb}
use lib.Dec.{eqb, ltb}
use lib.ListN.{length, get_or, drop}
use Rattle.std.specs.Prelude.{map, sum, sum_by}
use Rattle.std.proofs.lemmas.List.Sums.{sum-map, sum_by-cons}
use Rattle.hash.specs.Hash.{hash_of, load, together}
use Rattle.hash.proofs.Counting.{sum_load, sum_squares}
use Rattle.hash.proofs.Indicators.{indicator, indicator_le, indicator_eq, indicator_ne, indicator_sym}
use Rattle.hash.proofs.Sums.{sum_mono, sum_add, sum_const, sum_times}
use Rattle.jumps.specs.code.Jumps.{equals, equal_pairs}

-- equal numbers, beside codes that are in one place where their numbers are equal
module _ (p k w : ℕ) where
  equals_load :
      (x t : ℕ) (s codes : List ℕ) → length s ≡ length codes
      → ((i : ℕ) → i < length s → get_or s i 0 ≡ x → hash_of p k w (get_or codes i 0) ≡ t)
      → equals x s ≤ load p k w t codes
  unfolding equals load
  equals_load x t [] codes same each = omega arith
  equals_load x t (y ∷ s) [] same each = absurd (omega arith)
  equals_load x t (y ∷ s) (a ∷ codes) same each =
      let rest : equals x s ≤ load p k w t codes = equals_load x t s codes (omega arith) (λ i l. each (suc i) (omega arith)) in
      elim (ℕ_discrete y x) [
        | yes e ↦ omega (arith, indicator_eq (hash_of p k w a) t (each 0 (omega arith) e), indicator_le (eqb y x))
        | no ne ↦ omega (arith, indicator_ne y x ne)
      ]

  pub pairs_together :
      (s codes : List ℕ) → length s ≡ length codes
      → ((i j : ℕ) → i < j → j < length s → get_or s i 0 ≡ get_or s j 0 → hash_of p k w (get_or codes i 0) ≡ hash_of p k w (get_or codes j 0))
      → equal_pairs s ≤ together p k w codes
  unfolding equal_pairs together
  pairs_together [] codes same each = omega arith
  pairs_together (x ∷ s) [] same each = absurd (omega arith)
  pairs_together (x ∷ s) (a ∷ codes) same each =
      omega (
        arith,
        equals_load x (hash_of p k w a) s codes (omega arith) (λ i l e. sym (each 0 (suc i) (omega arith) (omega arith) (sym e))),
        pairs_together s codes (omega arith) (λ i j l h. each (suc i) (suc j) (omega arith) (omega arith)),
      )

-- Beside numbers that are small, and equal only where the codes are in one place, the codes with other numbers: each is together with the small ones of its
-- place.
module _ (p k w : ℕ) where
  unfoldable pub small_load : ℕ → List ℕ → List ℕ → ℕ
  small_load t [] codes = 0
  small_load t (y ∷ s) [] = 0
  small_load t (y ∷ s) (a ∷ codes) = cond (ltb y 2147483648) (indicator (eqb (hash_of p k w a) t)) 0 + small_load t s codes

  -- f of the places of the others, added up
  unfoldable pub others : (ℕ → ℕ) → List ℕ → List ℕ → ℕ
  others f [] codes = 0
  others f (y ∷ s) [] = 0
  others f (y ∷ s) (a ∷ codes) = cond (ltb y 2147483648) 0 (f (hash_of p k w a)) + others f s codes

  others_add : (f g : ℕ → ℕ) (s codes : List ℕ) → others (λ t. f t + g t) s codes ≡ others f s codes + others g s codes
  unfolding others
  others_add f g [] codes = omega arith
  others_add f g (y ∷ s) [] = omega arith
  others_add f g (y ∷ s) (a ∷ codes) =
      elim (dec_lt y 2147483648) [
        | yes l ↦ rw (lt-ltb y 2147483648 l) (omega (arith, others_add f g s codes))
        | no ge ↦ rw (le-ltb y 2147483648 (omega arith)) (omega (arith, others_add f g s codes))
      ]

  others_le : (f g : ℕ → ℕ) (s codes : List ℕ) → ((t : ℕ) → f t ≤ g t) → others f s codes ≤ others g s codes
  unfolding others
  others_le f g [] codes each = omega arith
  others_le f g (y ∷ s) [] each = omega arith
  others_le f g (y ∷ s) (a ∷ codes) each =
      elim (dec_lt y 2147483648) [
        | yes l ↦ rw (lt-ltb y 2147483648 l) (omega (arith, others_le f g s codes each))
        | no ge ↦ rw (le-ltb y 2147483648 (omega arith)) (omega (arith, each (hash_of p k w a), others_le f g s codes each))
      ]

  small_load_lem : (t : ℕ) (s codes : List ℕ) → small_load t s codes ≤ load p k w t codes
  unfolding load small_load
  small_load_lem t [] codes = omega arith
  small_load_lem t (y ∷ s) [] = omega arith
  small_load_lem t (y ∷ s) (a ∷ codes) =
      elim (dec_lt y 2147483648) [
        | yes l ↦ rw (lt-ltb y 2147483648 l) (omega (arith, small_load_lem t s codes))
        | no ge ↦ rw (le-ltb y 2147483648 (omega arith)) (omega (arith, small_load_lem t s codes))
      ]

  pub equals_small :
      (x t : ℕ) (s codes : List ℕ) → x < 2147483648 → length s ≡ length codes
      → ((i : ℕ) → i < length s → get_or s i 0 ≡ x → hash_of p k w (get_or codes i 0) ≡ t)
      → equals x s ≤ small_load t s codes
  unfolding equals small_load
  equals_small x t [] codes small same each = omega arith
  equals_small x t (y ∷ s) [] small same each = absurd (omega arith)
  equals_small x t (y ∷ s) (a ∷ codes) small same each =
      let rest : equals x s ≤ small_load t s codes = equals_small x t s codes small (omega arith) (λ i l. each (suc i) (omega arith)) in
      elim (ℕ_discrete y x) [
        | yes e ↦
            rw (lt-ltb y 2147483648 (omega arith))
            (omega (arith, rest, indicator_eq (hash_of p k w a) t (each 0 (omega arith) e), indicator_le (eqb y x)))
        | no ne ↦ omega (arith, rest, indicator_ne y x ne)
      ]

  -- a small number x of a code in place t: the equal ones, and the others of that place
  equals_others :
      (x t : ℕ) (s codes : List ℕ) → x < 2147483648 → length s ≡ length codes
      → ((i : ℕ) → i < length s → get_or s i 0 ≡ x → hash_of p k w (get_or codes i 0) ≡ t)
      → equals x s + others (λ u. indicator (eqb t u)) s codes ≤ load p k w t codes
  unfolding equals load others
  equals_others x t [] codes small same each = omega arith
  equals_others x t (y ∷ s) [] small same each = absurd (omega arith)
  equals_others x t (y ∷ s) (a ∷ codes) small same each =
      let rest : equals x s + others (λ u. indicator (eqb t u)) s codes ≤ load p k w t codes =
      equals_others x t s codes small (omega arith) (λ i l. each (suc i) (omega arith)) in
      elim (ℕ_discrete y x) [
        | yes e ↦
            rw (lt-ltb y 2147483648 (omega arith))
            (omega (arith, rest, indicator_eq (hash_of p k w a) t (each 0 (omega arith) e), indicator_le (eqb y x)))
        | no ne ↦
            elim (dec_lt y 2147483648) [
              | yes l ↦ rw (lt-ltb y 2147483648 l) (omega (arith, rest, indicator_ne y x ne))
              | no ge ↦ rw (le-ltb y 2147483648 (omega arith)) (omega (arith, rest, indicator_ne y x ne, indicator_sym t (hash_of p k w a)))
            ]
      ]

  equals_absent : (x : ℕ) (s : List ℕ) → ((i : ℕ) → i < length s → get_or s i 0 ≡ x → ⊥) → equals x s ≡ 0
  unfolding equals
  equals_absent x [] none = refl
  equals_absent x (y ∷ s) none = omega (arith, indicator_ne y x (none 0 (omega arith)), equals_absent x s (λ i l. none (suc i) (omega arith)))

  others_none : (f : ℕ → ℕ) (codes : List ℕ) → others f [] codes ≡ 0
  unfolding others
  others_none f codes = refl

  -- one more code, with a small number or a large one
  others_small :
      (f : ℕ → ℕ) (x a : ℕ) (s codes : List ℕ) → x < 2147483648 → others f (x ∷ s) (a ∷ codes) ≡ others f s codes
  unfolding others
  others_small f x a s codes small = rw (lt-ltb x 2147483648 small) (omega arith)

  others_large :
      (f : ℕ → ℕ) (x a : ℕ) (s codes : List ℕ) → 2147483648 ≤ x → others f (x ∷ s) (a ∷ codes) ≡ f (hash_of p k w a) + others f s codes
  unfolding others
  others_large f x a s codes large = rw (le-ltb x 2147483648 large) (omega arith)

  load_small :
      (t x a : ℕ) (s codes : List ℕ) → x < 2147483648 → small_load t (x ∷ s) (a ∷ codes) ≡ indicator (eqb (hash_of p k w a) t) + small_load t s codes
  unfolding small_load
  load_small t x a s codes small = rw (lt-ltb x 2147483648 small) (omega arith)

  load_large : (t x a : ℕ) (s codes : List ℕ) → 2147483648 ≤ x → small_load t (x ∷ s) (a ∷ codes) ≡ small_load t s codes
  unfolding small_load
  load_large t x a s codes large = rw (le-ltb x 2147483648 large) (omega arith)

  pub pairs_others :
      (s codes : List ℕ) → length s ≡ length codes
      → ((i j : ℕ) → i < j → j < length s → get_or s i 0 ≡ get_or s j 0
      → (get_or s i 0 < 2147483648) × (hash_of p k w (get_or codes i 0) ≡ hash_of p k w (get_or codes j 0)))
      → equal_pairs s + others (λ t. small_load t s codes) s codes ≤ together p k w codes
  unfolding equal_pairs together
  pairs_others [] codes same each = omega (arith, others_none (λ t. small_load t [] codes) codes)
  pairs_others (x ∷ s) [] same each = absurd (omega arith)
  pairs_others (x ∷ s) (a ∷ codes) same each =
      let rest : equal_pairs s + others (λ t. small_load t s codes) s codes ≤ together p k w codes =
      pairs_others s codes (omega arith) (λ i j l h. each (suc i) (suc j) (omega arith) (omega arith)) in
      let all : ℕ → ℕ = λ t. small_load t (x ∷ s) (a ∷ codes) in
      let old : ℕ → ℕ = λ t. small_load t s codes in
      let here : ℕ → ℕ = λ t. indicator (eqb (hash_of p k w a) t) in
      elim (dec_lt x 2147483648) [
        | yes small ↦
            omega (
              arith,
              rest,
              others_small all x a s codes small,
              others_le all (λ t. here t + old t) s codes (λ t. omega (arith, load_small t x a s codes small)),
              others_add here old s codes,
              equals_others x (hash_of p k w a) s codes small (omega arith) (λ i l e. sym (each 0 (suc i) (omega arith) (omega arith) (sym e)).1),
            )
        | no large ↦
            omega (
              arith,
              rest,
              others_large all x a s codes (omega arith),
              load_large (hash_of p k w a) x a s codes (omega arith),
              others_le all old s codes (λ t. omega (arith, load_large t x a s codes (omega arith))),
              equals_absent x s (λ i l e. large (each 0 (suc i) (omega arith) (omega arith) (sym e)).0),
              small_load_lem (hash_of p k w a) s codes,
            )
      ]

-- (m - t) * (m - t - 1) is not below 0, so that the square of a load is at least a line
square_line : (t m : ℕ) → (2 * t + 1) * m ≤ m * m + t * (t + 1)
square_line t m =
    elim (dec_le m t) [
      | yes le ↦
          let d : ℕ = t - m in
          let e : m + d ≡ t = add-sub_of_le le in
          rw (← e) (omega (arith, mul-le-mul {n₁ = 0} {m₁ = d} {n₂ = 0} {m₂ = d} (omega arith) (omega arith)))
      | no gt ↦
          let d : ℕ = m - suc t in
          let e : suc t + d ≡ m = add-sub_of_le (omega arith) in
          rw (← e) (omega arith)
    ]

-- n codes in w places make at least t * n - w * t * (t + 1) / 2 pairs, for any t
pub crowd : (p k w t : ℕ) (s : List ℕ) → 0 < w → 2 * t * length s ≤ 2 * together p k w s + w * (t * (t + 1))
crowd p k w t s pos =
    omega (
      arith,
      sum_mono (λ u. (2 * t + 1) * load p k w u s) (λ u. load p k w u s * load p k w u s + t * (t + 1)) w (λ u l. square_line t (load p k w u s)),
      sum_times (2 * t + 1) (λ u. load p k w u s) w,
      sum_add (λ u. load p k w u s * load p k w u s) (λ u. t * (t + 1)) w,
      sum_const (t * (t + 1)) w,
      ap (λ (n : ℕ). (2 * t + 1) * n) (sum_load p k w pos s),
      sum_squares p k w pos s,
    )

-- ---- equal numbers

pub equals_le : (x : ℕ) (s : List ℕ) → equals x s ≤ length s
unfolding equals
equals_le x [] = omega arith
equals_le x (y ∷ s) = omega (arith, indicator_le (eqb y x), equals_le x s)

-- as a sum of tests
equals_sum_by : (x : ℕ) (s : List ℕ) → sum_by (λ y. cond (eqb y x) 1 0) s ≡ equals x s
unfolding equals
equals_sum_by x [] = refl
equals_sum_by x (y ∷ s) = sum_by-cons (λ y. cond (eqb y x) 1 0) y s ∙ ap (λ (n : ℕ). cond (eqb y x) 1 0 + n) (equals_sum_by x s)

pub equals_sum : (x : ℕ) (s : List ℕ) → sum (map (λ y. cond (eqb y x) 1 0) s) ≡ equals x s
equals_sum x s = sum-map (λ y. cond (eqb y x) 1 0) s ∙ equals_sum_by x s

pub pairs_drop : (s : List ℕ) (i : ℕ) → equal_pairs (drop i s) ≤ equal_pairs s
unfolding equal_pairs
pairs_drop s zero = le_refl (equal_pairs s)
pairs_drop [] (suc i) = le_refl 0
pairs_drop (x ∷ s) (suc i) = omega (arith, pairs_drop s i)
