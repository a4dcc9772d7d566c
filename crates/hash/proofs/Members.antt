-- Lists of codes by membership: the codes of a list, taken apart and put together one code at a time, and the codes of one place.
use Prim.Native.Nat.{ℕ, zero, suc, ◌<◌}
use native.Mathlib.Decide.{ℕ_discrete}
use native.Mathlib.Omega.{arith}
use mathlib.Core.Bool.{Bool, cond}
use mathlib.Core.List.Memᴰ
use mathlib.Core.List.{List, [], ◌∷◌, Memᴰ}
use mathlib.Core.Logic.{inl, inr}
use mathlib.Core.Path.{◌≡◌, refl, sym, ap, ◌∙◌}
use lib.ListN.{length, get_or}
use borrow.Author.Tests.{eq-eqb, ne_eqb}
use Rattle.hash.specs.Hash.{hash_of, members, Codes}

-- ---- by index and by membership

pub mem_at : (s : List ℕ) (i : ℕ) → i < length s → Memᴰ (get_or s i 0) s
mem_at [] i h = absurd (omega arith)
mem_at (a ∷ s) zero h = Memᴰ.head refl
mem_at (a ∷ s) (suc i) h = Memᴰ.tail (mem_at s i (omega arith))

pub at_mem : {a : ℕ} {s : List ℕ} → Memᴰ a s → (i : ℕ) × (i < length s) × (get_or s i 0 ≡ a)
at_mem (Memᴰ.head e) = (0, omega arith, sym e)
at_mem (Memᴰ.tail m) = let (i, h, e) = at_mem m in (suc i, omega arith, e)

-- ---- a list of codes, one code at a time

module _ {p : ℕ} where
  pub codes_nil : Codes p []
  codes_nil = record { positive = λ i h. omega arith; below = λ i h. omega arith; different = λ i j l h e. omega arith }

  pub codes_cons : {a : ℕ} {s : List ℕ} → 0 < a → a < p → (Memᴰ a s → ⊥) → Codes p s → Codes p (a ∷ s)
  codes_cons {a} {s} pos lt new c = record { positive = positive; below = below; different = different }
    where
      positive : (i : ℕ) → i < suc (length s) → 0 < get_or (a ∷ s) i 0
      positive zero h = pos
      positive (suc i) h = c.positive i (omega arith)

      below : (i : ℕ) → i < suc (length s) → get_or (a ∷ s) i 0 < p
      below zero h = lt
      below (suc i) h = c.below i (omega arith)

      different : (i j : ℕ) → i < j → j < suc (length s) → get_or (a ∷ s) i 0 ≡ get_or (a ∷ s) j 0 → ⊥
      different i zero l h e = omega arith
      different zero (suc j) l h e = new (Memᴰ.cast e (mem_at s j (omega arith)))
      different (suc i) (suc j) l h e = c.different i j (omega arith) (omega arith) e

  pub codes_tail : {a : ℕ} {s : List ℕ} → Codes p (a ∷ s) → Codes p s
  codes_tail c =
      record {
        positive = λ i h. c.positive (suc i) (omega arith);
        below = λ i h. c.below (suc i) (omega arith);
        different = λ i j l h. c.different (suc i) (suc j) (omega arith) (omega arith);
      }

  pub codes_new : {a : ℕ} {s : List ℕ} → Codes p (a ∷ s) → Memᴰ a s → ⊥
  codes_new c m = let (i, h, e) = at_mem m in c.different 0 (suc i) (omega arith) (omega arith) (sym e)

-- ---- the codes of one place

module _ (p k w t : ℕ) where
  pub members_in : (a : ℕ) (s : List ℕ) → hash_of p k w a ≡ t → members p k w t (a ∷ s) ≡ a ∷ members p k w t s
  unfolding members
  members_in a s e = ap (λ (b : Bool). cond b (a ∷ members p k w t s) (members p k w t s)) (eq-eqb (hash_of p k w a) t e)

  pub members_out : (a : ℕ) (s : List ℕ) → (hash_of p k w a ≡ t → ⊥) → members p k w t (a ∷ s) ≡ members p k w t s
  unfolding members
  members_out a s n = ap (λ (b : Bool). cond b (a ∷ members p k w t s) (members p k w t s)) (ne_eqb (hash_of p k w a) t n)

  -- they are the codes of the list that hash to it
  pub mem_members : {a : ℕ} (s : List ℕ) → Memᴰ a s → hash_of p k w a ≡ t → Memᴰ a (members p k w t s)
  mem_members [] m e = absurd (Memᴰ.not-nil m)
  mem_members {a} (x ∷ s) m e =
      elim (ℕ_discrete (hash_of p k w x) t) [
        | yes here ↦
            rw (members_in x s here)
            (elim (Memᴰ.cases_cons m) [ inl q ↦ Memᴰ.head q | inr r ↦ Memᴰ.tail (mem_members s r e) ])
        | no away ↦
            rw (members_out x s away)
            (elim (Memᴰ.cases_cons m) [ inl q ↦ absurd (away (ap (hash_of p k w) (sym q) ∙ e)) | inr r ↦ mem_members s r e ])
      ]

  pub members_mem : {a : ℕ} (s : List ℕ) → Memᴰ a (members p k w t s) → Memᴰ a s × (hash_of p k w a ≡ t)
  unfolding members
  members_mem [] m = absurd (Memᴰ.not-nil m)
  members_mem {a} (x ∷ s) m =
      elim (ℕ_discrete (hash_of p k w x) t) [
        | yes here ↦
            elim (Memᴰ.cases_cons (rw (members_in x s here) at m)) [
              | inl q ↦ (Memᴰ.head q, ap (hash_of p k w) q ∙ here)
              | inr r ↦ let (n, e) = members_mem s r in (Memᴰ.tail n, e)
            ]
        | no away ↦ let (n, e) = members_mem s (rw (members_out x s away) at m) in (Memᴰ.tail n, e)
      ]

  pub members_codes : (codes : List ℕ) → Codes p codes → Codes p (members p k w t codes)
  unfolding members
  members_codes [] c = codes_nil
  members_codes (a ∷ s) c =
      elim (ℕ_discrete (hash_of p k w a) t) [
        | yes here ↦
            rw (members_in a s here)
            (codes_cons (c.positive 0 (omega arith)) (c.below 0 (omega arith)) (λ m. codes_new c (members_mem s m).0)
            (members_codes s (codes_tail c)))
        | no away ↦ rw (members_out a s away) (members_codes s (codes_tail c))
      ]
