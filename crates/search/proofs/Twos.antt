-- A block of two codes in its four cells: a multiplier separates them if their hashes differ.
use Prim.Native.Nat.{ℕ, ◌+◌, ◌*◌, ◌%◌, ◌<◌}
use native.Mathlib.Decide.{dec_lt}
use native.Mathlib.Nat.{one-mul, mod-eq_of_lt}
use native.Mathlib.Omega.{arith}
use mathlib.Core.Bool.{Bool, true, false, not}
use mathlib.Core.List.{[], ◌∷◌}
use mathlib.Core.Logic.{inl, inr}
use mathlib.Core.Path.{◌≡◌, refl, sym, ap, ap₂, ◌∙◌}
use borrow.Author.Tests.{eq-eqb, ne_eqb}
use lib.Dec.{eqb}
use mir.Val.{bool_byte}
use Rattle.hash.specs.Hash.{hash_of, load, together}
use Rattle.hash.proofs.Indicators.{true_or_false, indicator, indicator_sym, indicator_true, indicator_false}
use Rattle.search.specs.code.Searchable.{Searchable}
use Rattle.search.specs.code.Cells.{separates}
use Rattle.search.proofs.LeastCells.{TryingCells, cells_start}
use Rattle.search.proofs.Tries.{trying_more}

-- q puts them in one cell
abbrev pub meet : ℕ → ℕ → ℕ → ℕ → Bool
meet p a b q = eqb (hash_of p q 4 a) (hash_of p q 4 b)

-- a test as a number
pub as_number : (test : Bool) → bool_byte test ≡ indicator test
as_number true = refl
as_number false = refl

-- the multiplier 1 leaves a code as it is
one_leaves : {p a : ℕ} → a < p → hash_of p 1 4 a ≡ a % 4
unfolding hash_of
one_leaves {p} {a} l = ap (λ (x : ℕ). x % p % 4) (one-mul a) ∙ ap (λ (x : ℕ). x % 4) (mod-eq_of_lt l)

two_together : (p q a b : ℕ) → together p q 4 (a ∷ b ∷ []) ≡ indicator (meet p a b q)
unfolding together load
two_together p q a b = omega (arith, indicator_sym (hash_of p q 4 b) (hash_of p q 4 a))

-- q separates them where it does not put them in one cell
pub two_separates : (p q a b : ℕ) → separates p (a ∷ b ∷ []) q ≡ not (meet p a b q)
two_separates p q a b =
    elim (true_or_false (meet p a b q)) [
      | inl e ↦
          rw e (ne_eqb (together p q 4 (a ∷ b ∷ [])) 0 (λ none. absurd (omega (arith, two_together p q a b, indicator_true (meet p a b q) e))))
      | inr e ↦ rw e (eq-eqb (together p q 4 (a ∷ b ∷ [])) 0 (two_together p q a b ∙ indicator_false (meet p a b q) e))
    ]

module _ {p a b : ℕ} (codes : Searchable p (a ∷ b ∷ [])) where
  -- two codes are below p, and so is 2
  pub two_below : (a < p) × ((b < p) × (2 < p))
  two_below =
      let below : (a < p) × (b < p) = (codes.valid.below 0 (omega arith), codes.valid.below 1 (omega arith)) in (
        below.0,
        (
          below.1,
          elim (dec_lt 2 p) [
            | yes l ↦ l
            | no ge ↦
                absurd
                (codes.valid.different 0 1 (omega arith) (omega arith)
                (omega (arith, below.0, below.1, codes.valid.positive 0 (omega arith), codes.valid.positive 1 (omega arith))))
          ],
        ),
      )

  pub first_test : eqb (a % 4) (b % 4) ≡ meet p a b 1
  first_test = ap₂ eqb (sym (one_leaves two_below.0)) (sym (one_leaves two_below.1.0))

  -- one that fails has one after it
  pub two_more : {q : ℕ} → TryingCells p (a ∷ b ∷ []) q → meet p a b q ≡ true → TryingCells p (a ∷ b ∷ []) (q + 1)
  two_more {q} h e = trying_more h (two_separates p q a b ∙ ap not e)

  -- the first three are tried at once
  pub two_start :
      {first second : ℕ} → first ≡ indicator (meet p a b 1) → second ≡ indicator (meet p a b 2)
      → TryingCells p (a ∷ b ∷ []) (1 + first * (1 + second))
  two_start {first} {second} is then =
      elim (true_or_false (meet p a b 1)) [
        | inr e ↦
            let none : first ≡ 0 = is ∙ indicator_false (meet p a b 1) e in
            let number : 1 + first * (1 + second) ≡ 1 = rw none (omega arith) in
            rw number (cells_start codes)
        | inl e ↦
            let one : first ≡ 1 = is ∙ indicator_true (meet p a b 1) e in
            let next : TryingCells p (a ∷ b ∷ []) 2 = two_more (cells_start codes) e in
            elim (true_or_false (meet p a b 2)) [
              | inr f ↦ rw (one, then ∙ indicator_false (meet p a b 2) f) next
              | inl f ↦ rw (one, then ∙ indicator_true (meet p a b 2) f) (two_more next f)
            ]
      ]
