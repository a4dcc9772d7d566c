-- What is among the first codes of a list, one code more at a time.
use Prim.Native.Nat.{ℕ, zero, suc, ◌<◌, ◌≤◌}
use mathlib.Core.Bool.{Bool, true, false, ◌||◌}
use mathlib.Core.List.{List, [], ◌∷◌, ◌++◌}
use mathlib.Core.Path.{◌≡◌, refl, sym, ap}
use native.Mathlib.Decide.{ℕ_discrete}
use native.Mathlib.Omega.{arith}
use borrow.Author.Tests.{eq-eqb, ne_eqb}
use lib.Dec.{eqb}
use lib.ListN.{length, get_or, take}
use lib.Seq.{take-suc}
use Rattle.prelude.specs.Pairs.{among}

-- what is among codes and one more
or_no : (b : Bool) → b || false ≡ b
or_no true = refl
or_no false = refl

or_yes : (b : Bool) → b || true ≡ true
or_yes true = refl
or_yes false = refl

or_assoc : (a b c : Bool) → (a || b) || c ≡ a || (b || c)
or_assoc true b c = refl
or_assoc false b c = refl

pub among_append : (a : ℕ) (s t : List ℕ) → among a (s ++ t) ≡ among a s || among a t
unfolding among
among_append a [] t = refl
among_append a (x ∷ s) t = rw (among_append a s t) (sym (or_assoc (eqb a x) (among a s) (among a t)))

pub among_suc : (a : ℕ) (codes : List ℕ) (n : ℕ) → n < length codes → among a (take (suc n) codes) ≡ among a (take n codes) || eqb a (get_or codes n 0)
unfolding among
among_suc a codes n l =
    rw (take-suc codes n 0 l, among_append a (take n codes) (get_or codes n 0 ∷ []))
    (ap (λ (b : Bool). among a (take n codes) || b) (or_no (eqb a (get_or codes n 0))))

pub among_here : (a : ℕ) (codes : List ℕ) (n : ℕ) → n < length codes → get_or codes n 0 ≡ a → among a (take (suc n) codes) ≡ true
among_here a codes n l e = rw (among_suc a codes n l, eq-eqb a (get_or codes n 0) (sym e)) (or_yes (among a (take n codes)))

pub among_other : (a : ℕ) (codes : List ℕ) (n : ℕ) → n < length codes → (get_or codes n 0 ≡ a → ⊥) → among a (take (suc n) codes) ≡ among a (take n codes)
among_other a codes n l ne = rw (among_suc a codes n l, ne_eqb a (get_or codes n 0) (λ e. ne (sym e))) (or_no (among a (take n codes)))

pub among_at : (a : ℕ) (codes : List ℕ) (i n : ℕ) → i < n → n ≤ length codes → get_or codes i 0 ≡ a → among a (take n codes) ≡ true
among_at a codes i zero l m e = absurd (omega arith)
among_at a codes i (suc n) l m e =
    elim (ℕ_discrete i n) [
      | yes q ↦ among_here a codes n m (rw q at e)
      | no ne ↦ rw (among_suc a codes n m, among_at a codes i n (omega arith) (omega arith) e)
    ]

-- no code of a list is a
pub among_none : (a : ℕ) (codes : List ℕ) → ((i : ℕ) → i < length codes → get_or codes i 0 ≡ a → ⊥) → among a codes ≡ false
unfolding among
among_none a [] none = refl
among_none a (x ∷ codes) none =
    rw (ne_eqb a x (λ e. none 0 (omega arith) (sym e))) (among_none a codes (λ i l. none (suc i) (omega arith)))
