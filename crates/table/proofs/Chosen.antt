-- The multipliers that a table takes: the least ones that pass exist, for every list of codes, by the theorems of the hash.
use Prim.Native.Nat.{ℕ, ◌+◌, ◌*◌, ◌<◌, ◌≤◌}
use native.Mathlib.Omega.{arith}
use mathlib.Core.List.{List, [], ◌∷◌}
use mathlib.Core.Path.{◌≡◌, refl}
use lib.Dec.{eqb, leb}
use lib.ListN.{length}
use borrow.Author.Tests.{eq-eqb, eqb-true, le-leb, leb-true}
use Rattle.hash.specs.Hash.{together, sum, cells, Codes}
use Rattle.hash.specs.Theorems.{Prime, Least}
use Rattle.hash.proofs.LeastLaws.{least_found}
use Rattle.hash.proofs.Multipliers.{blocks_exist, cells_exist}
use Rattle.table.specs.TwoLevel.{blocks_multiplier, cells_multiplier, cells_of}

module _ {p : ℕ} (prime : Prime p) where
  -- ---- q of a block

  pub cells_least :
      (block : List ℕ) → Codes p block
      → Least (λ q. eqb (together p q (length block * length block) block) 0) p (cells_multiplier p block)
  unfolding cells_multiplier
  cells_least block valid =
      let (q, from, below, none) = cells_exist prime block valid in
      least_found (λ q. eqb (together p q (length block * length block) block) 0) p q from below (eq-eqb _ 0 none)

  pub cells_apart :
      (block : List ℕ) → Codes p block → together p (cells_multiplier p block) (length block * length block) block ≡ 0
  cells_apart block valid = eqb-true _ 0 (cells_least block valid).passes

  -- ---- k

  pub blocks_least :
      (codes : List ℕ) → Codes p codes → 0 < length codes
      → Least (λ k. leb (cells p k codes + 2) (3 * length codes)) p (blocks_multiplier p codes)
  unfolding blocks_multiplier
  blocks_least [] valid pos = absurd (omega arith)
  blocks_least (a ∷ s) valid pos =
      let (k, from, below, few) = blocks_exist prime (a ∷ s) valid pos in
      least_found (λ k. leb (cells p k (a ∷ s) + 2) (3 * length (a ∷ s))) p k from below (le-leb _ _ few)

  pub blocks_range : (codes : List ℕ) → Codes p codes → (1 ≤ blocks_multiplier p codes) × (blocks_multiplier p codes < p)
  unfolding blocks_multiplier
  blocks_range [] valid = (omega arith, prime.two_le)
  blocks_range (a ∷ s) valid =
      let r = blocks_least (a ∷ s) valid (omega arith) in
      (r.from_one, r.below)

  -- c is at most 3n - 2, and 0 for the empty list
  pub few_cells : (codes : List ℕ) → Codes p codes → 0 < length codes → cells_of p codes + 2 ≤ 3 * length codes
  unfolding cells_of
  few_cells codes valid pos = leb-true _ _ (blocks_least codes valid pos).passes

pub no_cells : (p : ℕ) (codes : List ℕ) → length codes ≡ 0 → cells_of p codes ≡ 0
unfolding cells_of cells sum
no_cells p [] none = refl
no_cells p (a ∷ s) none = absurd (omega arith)
