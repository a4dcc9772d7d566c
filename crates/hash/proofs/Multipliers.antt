-- Source 000, lemmas 1 to 3, for a list of n codes. Summed over all multipliers, the pairs put together in w places are at
-- most n * (n - 1) * ((p - 1) / w). So with w = n some multiplier puts at most n - 1 pairs together, and with w = n * n none.
use Prim.Native.Nat.{ℕ, zero, suc, ◌+◌, ◌*◌, ◌-◌, ◌/◌, ◌<◌, ◌≤◌}
use native.Mathlib.Nat.{div-mul-le_self, mul-le-mul_left}
use native.Mathlib.Omega.{arith}
use mathlib.Core.List.{List, [], ◌∷◌, Memᴰ}
use mathlib.Core.Path.{◌≡◌, refl, sym}
use lib.ListN.{length}
use Rattle.hash.specs.Hash.{hash_of, load, together, sum, cells, Codes}
use Rattle.hash.specs.Theorems.{Prime, collides}
use Rattle.hash.proofs.Sums.{sum_add, sum_const, sum_mean}
use Rattle.hash.proofs.Collisions.{collisions}
use Rattle.hash.proofs.Counting.{cells_is}
use Rattle.hash.proofs.Members.{codes_tail, codes_new}

-- the arithmetic of the two means, over N = p - 1 multipliers, for n = m + 1 codes and M = N / w
blocks_mean : (S m M N : ℕ) → 0 < N → M * suc m ≤ N → S + suc m * M ≤ suc m * suc m * M → S < N * suc m
blocks_mean S m M N pos h le = omega (arith, mul-le-mul_left m h)

cells_mean : (S m M N : ℕ) → 0 < N → M * (suc m * suc m) ≤ N → S + suc m * M ≤ suc m * suc m * M → S < N * 1
cells_mean S m zero N pos h le = omega arith
cells_mean S m (suc M) N pos h le = omega arith

module _ {p : ℕ} (prime : Prime p) where
  -- the codes of s that are put together with a, which is none of them
  sum_loads :
      (w a : ℕ) (s : List ℕ) → 0 < w → a < p → (Memᴰ a s → ⊥) → Codes p s
      → sum (λ i. load p (suc i) w (hash_of p (suc i) w a) s) (p - 1) ≤ length s * (2 * ((p - 1) / w))
  unfolding load collides
  sum_loads w a [] pos lt new c = omega (arith, sum_const 0 (p - 1))
  sum_loads w a (b ∷ s) pos lt new c =
      omega (
        arith,
        sum_add (λ i. collides p w b a (suc i)) (λ i. load p (suc i) w (hash_of p (suc i) w a) s) (p - 1),
        collisions prime w b a pos (c.below 0 (omega arith)) lt (λ e. new (Memᴰ.head (sym e))),
        sum_loads w a s pos lt (λ m. new (Memᴰ.tail m)) (codes_tail c),
      )

  pub sum_together :
      (w : ℕ) (codes : List ℕ) → 0 < w → Codes p codes
      → sum (λ i. together p (suc i) w codes) (p - 1) + length codes * ((p - 1) / w) ≤ length codes * length codes * ((p - 1) / w)
  unfolding together
  sum_together w [] pos c = omega (arith, sum_const 0 (p - 1))
  sum_together w (a ∷ s) pos c =
      omega (
        arith,
        sum_add (λ i. load p (suc i) w (hash_of p (suc i) w a) s) (λ i. together p (suc i) w s) (p - 1),
        sum_loads w a s pos (c.below 0 (omega arith)) (codes_new c) (codes_tail c),
        sum_together w s pos (codes_tail c),
      )

  pub blocks_exist :
      (codes : List ℕ) → Codes p codes → 0 < length codes
      → (k : ℕ) × (1 ≤ k) × (k < p) × (cells p k codes + 2 ≤ 3 * length codes)
  blocks_exist [] c pos = absurd (omega arith)
  blocks_exist (a ∷ s) c pos =
      let n : ℕ = suc (length s) in
      let (i, below, few) =
      sum_mean (λ i. together p (suc i) n (a ∷ s)) (length s) (p - 1)
      (blocks_mean _ (length s) ((p - 1) / n) (p - 1) (omega (arith, prime.two_le)) (div-mul-le_self (p - 1) n)
      (sum_together n (a ∷ s) pos c)) in
      (suc i, omega arith, omega arith, omega (arith, cells_is p (suc i) (a ∷ s) pos))

  pub cells_exist :
      (codes : List ℕ) → Codes p codes
      → (q : ℕ) × (1 ≤ q) × (q < p) × (together p q (length codes * length codes) codes ≡ 0)
  unfolding together
  cells_exist [] c = (1, omega arith, prime.two_le, refl)
  cells_exist (a ∷ s) c =
      let w : ℕ = suc (length s) * suc (length s) in
      let (i, below, none) =
      sum_mean (λ i. together p (suc i) w (a ∷ s)) 0 (p - 1)
      (cells_mean _ (length s) ((p - 1) / w) (p - 1) (omega (arith, prime.two_le)) (div-mul-le_self (p - 1) w)
      (sum_together w (a ∷ s) (omega arith) c)) in
      (suc i, omega arith, omega arith, omega arith)
