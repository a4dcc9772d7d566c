-- The cells of one block, and the values listed with the codes of one place, a code at a time.
use Prim.Native.Nat.{ℕ}
use native.Mathlib.Decide.{ℕ_discrete}
use mathlib.Core.List.{List, [], ◌∷◌}
use mathlib.Core.Path.{◌≡◌, refl, ap}
use borrow.Author.Tests.{eq-eqb, ne_eqb}
use Rattle.hash.specs.Hash.{hash_of, load, members}
use Rattle.hash.proofs.Counting.{load_zero}
use Rattle.hash.proofs.Members.{members_in, members_out}
use Rattle.prelude.specs.Pairs.{paired, pairs_where}
use Rattle.table.specs.TwoLevel.{held_at}
use Rattle.table.proofs.Held.{held_none}
use Rattle.search.specs.code.Placed.{values_of}

-- a place to which no code hashes is empty
pub held_unloaded :
    (p q w : ℕ) (block values : List ℕ) (t : ℕ) → load p q w t block ≡ 0 → held_at (hash_of p q w) block values t ≡ 0
held_unloaded p q w block values t none = held_none (hash_of p q w) block values t (load_zero p q w t block none)

-- ---- the values of one place

module _ (p k w t : ℕ) where
  pub values_of_in :
      (a v : ℕ) (codes values : List ℕ) → hash_of p k w a ≡ t
      → values_of p k w t (a ∷ codes) (v ∷ values) ≡ v ∷ values_of p k w t codes values
  unfolding values_of paired pairs_where
  values_of_in a v codes values e = rw (eq-eqb (hash_of p k w a) t e)

  pub values_of_out :
      (a v : ℕ) (codes values : List ℕ) → (hash_of p k w a ≡ t → ⊥)
      → values_of p k w t (a ∷ codes) (v ∷ values) ≡ values_of p k w t codes values
  unfolding values_of paired pairs_where
  values_of_out a v codes values ne = rw (ne_eqb (hash_of p k w a) t ne)

  -- the codes themselves
  pub values_of_codes : (codes : List ℕ) → values_of p k w t codes codes ≡ members p k w t codes
  unfolding values_of paired pairs_where members
  values_of_codes [] = refl
  values_of_codes (a ∷ codes) =
      elim (ℕ_discrete (hash_of p k w a) t) [
        | yes e ↦ rw (values_of_in a a codes codes e, members_in p k w t a codes e) (ap (λ (s : List ℕ). a ∷ s) (values_of_codes codes))
        | no ne ↦ rw (values_of_out a a codes codes ne, members_out p k w t a codes ne) (values_of_codes codes)
      ]
