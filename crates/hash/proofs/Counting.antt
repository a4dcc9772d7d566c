-- Loads, pairs put together, and cells, by recursion on the list. The cells are n + 2 * together: a block of m codes has
-- m * m cells, and m * (m - 1) / 2 pairs.
use Prim.Native.Nat.{ℕ, zero, suc, ◌+◌, ◌*◌, ◌%◌, ◌<◌, ◌≤◌}
use native.Mathlib.Nat.{mod-lt}
use native.Mathlib.Omega.{arith}
use mathlib.Core.Bool.{Bool, true, false, cond}
use mathlib.Core.List.{List, [], ◌∷◌, ◌++◌}
use mathlib.Core.Path.{◌≡◌, refl, sym}
use lib.Dec.{eqb}
use lib.ListN.{length, get_or}
use Rattle.hash.specs.Hash.{hash_of, load, members, together, sum, cells}
use Rattle.hash.proofs.Indicators.{indicator, indicator_le, indicator_eq, indicator_ne, indicator_square}
use Rattle.hash.proofs.Sums.{sum_ext, sum_add, sum_const, sum_pick, sum_one}

-- a code hashes to one of the places
pub hash_lt : (p k w a : ℕ) → 0 < w → hash_of p k w a < w
unfolding hash_of
hash_lt p k w a pos = mod-lt ((k * a) % p) pos

length_cond : (b : Bool) (a : ℕ) (s : List ℕ) → length (cond b (a ∷ s) s) ≡ indicator b + length s
length_cond true a s = omega arith
length_cond false a s = omega arith

module _ (p k w : ℕ) where
  -- ---- loads

  pub load_append : (t : ℕ) (s r : List ℕ) → load p k w t (s ++ r) ≡ load p k w t s + load p k w t r
  unfolding load
  load_append t [] r = omega arith
  load_append t (a ∷ s) r = omega (arith, load_append t s r)

  pub load_le : (t : ℕ) (s : List ℕ) → load p k w t s ≤ length s
  unfolding load
  load_le t [] = omega arith
  load_le t (a ∷ s) = omega (arith, indicator_le (eqb (hash_of p k w a) t), load_le t s)

  pub load_members : (t : ℕ) (s : List ℕ) → length (members p k w t s) ≡ load p k w t s
  unfolding load members
  load_members t [] = refl
  load_members t (a ∷ s) =
      omega (arith, length_cond (eqb (hash_of p k w a) t) a (members p k w t s), load_members t s)

  -- each code is in one place
  pub sum_load : 0 < w → (s : List ℕ) → sum (λ t. load p k w t s) w ≡ length s
  unfolding load
  sum_load pos [] = omega (arith, sum_const 0 w)
  sum_load pos (a ∷ s) =
      omega (
        arith,
        sum_add (λ t. indicator (eqb (hash_of p k w a) t)) (λ t. load p k w t s) w,
        sum_one (hash_of p k w a) w (hash_lt p k w a pos),
        sum_load pos s,
      )

  -- the sum of the squares of the loads
  pub sum_squares :
      0 < w → (s : List ℕ) → sum (λ t. load p k w t s * load p k w t s) w ≡ length s + 2 * together p k w s
  unfolding load together
  sum_squares pos [] = omega (arith, sum_const 0 w)
  sum_squares pos (a ∷ s) =
      omega (
        arith,
        sum_ext _ _ w (λ t l. indicator_square (eqb (hash_of p k w a) t) (load p k w t s)),
        sum_add (λ t. indicator (eqb (hash_of p k w a) t) * (1 + 2 * load p k w t s)) (λ t. load p k w t s * load p k w t s) w,
        sum_pick (λ t. 1 + 2 * load p k w t s) (hash_of p k w a) w (hash_lt p k w a pos),
        sum_squares pos s,
      )

pub cells_is : (p k : ℕ) (codes : List ℕ) → 0 < length codes → cells p k codes ≡ length codes + 2 * together p k (length codes) codes
unfolding cells
cells_is p k codes pos = sum_squares p k (length codes) pos codes

-- ---- nothing in a place, and nothing together

module _ (p k w : ℕ) where
  pub load_zero :
      (t : ℕ) (s : List ℕ) → load p k w t s ≡ 0 → (i : ℕ) → i < length s → hash_of p k w (get_or s i 0) ≡ t → ⊥
  unfolding load
  load_zero t [] z i h e = omega arith
  load_zero t (a ∷ s) z zero h e = omega (arith, indicator_eq (hash_of p k w a) t e)
  load_zero t (a ∷ s) z (suc i) h e = load_zero t s (omega arith) i (omega arith) e

  pub load_none :
      (t : ℕ) (s : List ℕ) → ((i : ℕ) → i < length s → hash_of p k w (get_or s i 0) ≡ t → ⊥) → load p k w t s ≡ 0
  unfolding load
  load_none t [] none = refl
  load_none t (a ∷ s) none =
      omega
      (arith, indicator_ne (hash_of p k w a) t (none 0 (omega arith)), load_none t s (λ i h. none (suc i) (omega arith)))

  -- no pair is put together: any two codes are in different places
  pub together_apart :
      (s : List ℕ) → together p k w s ≡ 0
      → (i j : ℕ) → i < j → j < length s → hash_of p k w (get_or s i 0) ≡ hash_of p k w (get_or s j 0) → ⊥
  unfolding together
  together_apart [] z i j l h e = omega arith
  together_apart (a ∷ s) z i zero l h e = omega arith
  together_apart (a ∷ s) z zero (suc j) l h e = load_zero (hash_of p k w a) s (omega arith) j (omega arith) (sym e)
  together_apart (a ∷ s) z (suc i) (suc j) l h e = together_apart s (omega arith) i j (omega arith) (omega arith) e

  pub apart_together :
      (s : List ℕ)
      → ((i j : ℕ) → i < j → j < length s → hash_of p k w (get_or s i 0) ≡ hash_of p k w (get_or s j 0) → ⊥)
      → together p k w s ≡ 0
  unfolding together
  apart_together [] apart = refl
  apart_together (a ∷ s) apart =
      omega (
        arith,
        load_none (hash_of p k w a) s (λ i h e. apart 0 (suc i) (omega arith) (omega arith) (sym e)),
        apart_together s (λ i j l h. apart (suc i) (suc j) (omega arith) (omega arith)),
      )
