-- The words that settle a lookup in a well-formed table are words of the table: each of their positions is below its total.
use Prim.Native.Nat.{ℕ, zero, suc, ◌+◌, ◌*◌, ◌<◌}
use native.Mathlib.Nat.{pos_of_ne-zero}
use native.Mathlib.Omega.{arith}
use mathlib.Core.Bool.{Bool, true, false, cond}
use mathlib.Core.List.{List, [], ◌∷◌}
use mathlib.Core.Path.{◌≡◌, refl}
use lib.Dec.{eqb, ltb}
use lib.ListN.{length, get_or}
use borrow.Author.Tests.{eqb-false, ltb-true}
use Rattle.table.specs.Words.{code_count, cell_count, total, block_start, block_end, block_of, cell_in, own_cell}
use Rattle.audit.specs.WellFormed.{WellFormed}
use Rattle.audit.proofs.Partition.{block_lt, end_within, cell_lt}
use Rattle.audit.proofs.Lookups.{starts}
use Rattle.demands.specs.Lists.{looked_at}

-- all positions of a list are below a bound
AllBelow : ℕ → List ℕ → Type 0
AllBelow bound s = (i : ℕ) → i < length s → get_or s i 0 < bound

module _ (bound : ℕ) where
  below_nil : AllBelow bound []
  unfolding AllBelow
  below_nil i h = absurd (omega arith)

  below_cons : (a : ℕ) (s : List ℕ) → a < bound → AllBelow bound s → AllBelow bound (a ∷ s)
  unfolding AllBelow
  below_cons a s l all zero h = l
  below_cons a s l all (suc i) h = all i (omega arith)

  below_cond :
      (b : Bool) (s r : List ℕ) → (b ≡ true → AllBelow bound s) → (b ≡ false → AllBelow bound r) → AllBelow bound (cond b s r)
  below_cond true s r yes-case no-case = yes-case refl
  below_cond false s r yes-case no-case = no-case refl

module _ {p limit : ℕ} {words : List ℕ} (f : WellFormed p limit words) (a : ℕ) where
  cells_within :
      block_start words (block_of p words a) < block_end words (block_of p words a) → 0 < code_count words
      → AllBelow (total words)
      ((3 + 2 * code_count words + own_cell p words a) ∷ (3 + 2 * code_count words + cell_count words + own_cell p words a) ∷ [])
  unfolding own_cell
  cells_within has some =
      let j : ℕ = block_of p words a in
      let l : j < code_count words = block_lt p words a some in
      let own : cell_in p words j a < cell_count words =
      omega (arith, cell_lt words (starts f) p j a l (λ e. omega arith), end_within words (starts f) j l) in
      below_cons _ _ _ (omega arith) (below_cons _ _ _ (omega arith) (below_nil _))

  end_position : (j : ℕ) → j < code_count words → cond (eqb (j + 1) (code_count words)) 1 (3 + (j + 1)) < total words
  end_position j l = go (eqb (j + 1) (code_count words)) refl
    where
      go : (b : Bool) → eqb (j + 1) (code_count words) ≡ b → cond b 1 (3 + (j + 1)) < total words
      go true e = omega arith
      go false e = let ne : j + 1 ≡ code_count words → ⊥ = eqb-false (j + 1) (code_count words) e in omega arith

  all_looked : AllBelow (total words) (looked_at p words a)
  unfolding looked_at
  all_looked =
      below_cons _ 0 _ (omega arith)
      (below_cons _ 1 _ (omega arith)
      (below_cons _ 2 _ (omega arith)
      (below_cond _ (eqb (code_count words) 0) [] _ (λ e. below_nil _)
      (λ e.
      let ne : code_count words ≡ 0 → ⊥ = eqb-false (code_count words) 0 e in
      let some : 0 < code_count words = pos_of_ne-zero ne in
      let l : block_of p words a < code_count words = block_lt p words a some in
      below_cons _ (3 + block_of p words a) _ (omega arith)
      (below_cons _ _ _ (end_position (block_of p words a) l)
      (below_cons _ (3 + code_count words + block_of p words a) _ (omega arith)
      (below_cond _ (ltb (block_start words (block_of p words a)) (block_end words (block_of p words a))) _ []
      (λ has. cells_within (ltb-true _ _ has) some)
      (λ has. below_nil _))))))))

  pub looked_within : (i : ℕ) → i < length (looked_at p words a) → get_or (looked_at p words a) i 0 < total words
  unfolding AllBelow
  looked_within = all_looked
