-- Tests as numbers: an indicator is 1 where its test passes and 0 where it fails, so that a sum of indicators counts.
use Prim.Native.Nat.{ℕ, ◌+◌, ◌*◌, ◌≤◌}
use native.Mathlib.Omega.{arith}
use mathlib.Core.Bool.{Bool, true, false, cond}
use mathlib.Core.Logic.{◌⊎◌, inl, inr}
use mathlib.Core.Path.{◌≡◌, refl, sym, ap, ◌∙◌}
use lib.Dec.{eqb}
use borrow.Author.Tests.{eqb-true, eqb-false, eq-eqb, ne_eqb}

-- both cases of a test, each with its equation
pub true_or_false : (b : Bool) → (b ≡ true) ⊎ (b ≡ false)
true_or_false true = inl refl
true_or_false false = inr refl

abbrev pub indicator : Bool → ℕ
indicator b = cond b 1 0

pub indicator_true : (b : Bool) → b ≡ true → indicator b ≡ 1
indicator_true b e = ap indicator e

pub indicator_false : (b : Bool) → b ≡ false → indicator b ≡ 0
indicator_false b e = ap indicator e

pub indicator_le : (b : Bool) → indicator b ≤ 1
indicator_le true = omega arith
indicator_le false = omega arith

-- of a test for equality, by the fact
pub indicator_eq : (a b : ℕ) → a ≡ b → indicator (eqb a b) ≡ 1
indicator_eq a b e = indicator_true (eqb a b) (eq-eqb a b e)

pub indicator_ne : (a b : ℕ) → (a ≡ b → ⊥) → indicator (eqb a b) ≡ 0
indicator_ne a b n = indicator_false (eqb a b) (ne_eqb a b n)

pub indicator_sym : (a b : ℕ) → indicator (eqb a b) ≡ indicator (eqb b a)
indicator_sym a b =
    elim (true_or_false (eqb a b)) [
      | inl e ↦ indicator_true (eqb a b) e ∙ sym (indicator_eq b a (sym (eqb-true a b e)))
      | inr e ↦ indicator_false (eqb a b) e ∙ sym (indicator_ne b a (λ q. eqb-false a b e (sym q)))
    ]

-- an indicator is its own square
pub indicator_square : (b : Bool) (l : ℕ) → (indicator b + l) * (indicator b + l) ≡ indicator b * (1 + 2 * l) + l * l
indicator_square true l = omega arith
indicator_square false l = omega arith
