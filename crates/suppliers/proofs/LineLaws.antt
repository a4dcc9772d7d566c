-- A text is its first line and what follows it; the first line is that of a pair exactly if the text begins with one, since digits end before a
-- newline byte.
use Prim.Native.Nat.{ℕ, zero, suc, ◌+◌, ◌<◌, ◌≤◌}
use mathlib.Core.Bool.{Bool, true, false, ◌&&◌, true≢false}
use mathlib.Core.List.{List, [], ◌∷◌, ◌++◌}
use mathlib.Core.Logic.{inl, inr}
use mathlib.Core.Path.{◌≡◌, refl, ap, sym, ◌∙◌}
use native.Mathlib.Omega.{arith}
use borrow.Author.Tests.{eqb-true, eq-eqb, ne_eqb}
use lib.Dec.{eqb}
use lib.ListN.{length, get_or, drop, length-append}
use lib.Seq.{drop_at}
use Rattle.hash.proofs.Indicators.{true_or_false}
use Rattle.decimal.specs.Number.{is_digit, digits_in, after_digits, is_number, decimal_value}
use Rattle.suppliers.specs.Text.{lines_of, starting_with, after_comma, is_line, pair_of}
use Rattle.suppliers.specs.code.Scan.{first_line, after_line, begins_line}
use Rattle.decimal.proofs.Numbers.{digits_then}

pub both_true : (a b : Bool) → a && b ≡ true → (a ≡ true) × (b ≡ true)
both_true true b h = (refl, h)
both_true false b h = absurd (true≢false (sym h))

-- ---- the first line, and the others

pub line_then : (t : List ℕ) → first_line t ++ after_line t ≡ t
unfolding first_line after_line
line_then [] = refl
line_then (b ∷ t) =
    elim (true_or_false (eqb b 10)) [
      | inl e ↦ rw e refl
      | inr e ↦ rw e (ap (λ (l : List ℕ). b ∷ l) (line_then t))
    ]

pub after_line_lem : (t : List ℕ) → drop (length (first_line t)) t ≡ after_line t
after_line_lem t = rw line_then at (drop_at (first_line t) (after_line t) (length (first_line t)) refl)

pub lines_cons : (b : ℕ) (t : List ℕ) → lines_of (b ∷ t) ≡ first_line (b ∷ t) ∷ lines_of (after_line (b ∷ t))
unfolding lines_of first_line after_line
lines_cons b [] = elim (true_or_false (eqb b 10)) [ inl e ↦ rw e | inr e ↦ rw e ]
lines_cons b (x ∷ t) =
    elim (true_or_false (eqb b 10)) [
      | inl e ↦ rw e
      | inr e ↦ rw e (ap (λ (lines : List (List ℕ)). starting_with b lines) (lines_cons x t))
    ]

-- the first line ends at the first newline byte
pub line_short : (t : List ℕ) (i : ℕ) → get_or t i 0 ≡ 10 → length (first_line t) ≤ i + 1
unfolding first_line
line_short [] i e = omega arith
line_short (b ∷ t) zero e = rw e (omega arith)
line_short (b ∷ t) (suc i) e =
    elim (true_or_false (eqb b 10)) [ inl n ↦ rw n (omega arith) | inr n ↦ rw n (omega (arith, line_short t i e)) ]

-- ---- the first line as far as it is digits, a byte, or a newline

no_digit : (b : ℕ) → is_digit b ≡ true → eqb b 10 ≡ false
no_digit b e = ne_eqb b 10 (λ q. true≢false (sym e ∙ ap is_digit q))

pub digits_first : (t : List ℕ) → digits_in (first_line t) ≡ digits_in t
unfolding first_line digits_in
digits_first [] = refl
digits_first (b ∷ t) =
    elim (true_or_false (is_digit b)) [
      | inl d ↦ rw (no_digit b d, d) (ap (λ (l : List ℕ). b ∷ l) (digits_first t))
      | inr d ↦ elim (true_or_false (eqb b 10)) [ inl e ↦ rw (e, d) | inr e ↦ rw (e, d) ]
    ]

pub after_first : (t : List ℕ) → after_digits (first_line t) ≡ first_line (after_digits t)
unfolding first_line after_digits
after_first [] = refl
after_first (b ∷ t) =
    elim (true_or_false (is_digit b)) [
      | inl d ↦ rw (no_digit b d, d) (after_first t)
      | inr d ↦ elim (true_or_false (eqb b 10)) [ inl e ↦ rw (e, d, e) | inr e ↦ rw (e, d, e) ]
    ]

byte_first : (t : List ℕ) → get_or (first_line t) 0 0 ≡ get_or t 0 0
unfolding first_line
byte_first [] = refl
byte_first (b ∷ t) = elim (true_or_false (eqb b 10)) [ inl e ↦ rw e | inr e ↦ rw e ]

rest_first : (t : List ℕ) → eqb (get_or t 0 0) 10 ≡ false → drop 1 (first_line t) ≡ first_line (drop 1 t)
unfolding first_line
rest_first [] h = refl
rest_first (b ∷ t) h = rw h

ended_first : (t : List ℕ) → eqb (get_or t 0 0) 10 ≡ true → first_line t ≡ 10 ∷ []
unfolding first_line
ended_first [] h = absurd (true≢false (sym h))
ended_first (b ∷ t) h = rw (h, eqb-true b 10 h)

comma_first : (t : List ℕ) → eqb (get_or (after_digits t) 0 0) 44 ≡ true → after_comma (first_line t) ≡ first_line (after_comma t)
comma_first t h =
    rw after_first
    (rest_first (after_digits t) (ne_eqb (get_or (after_digits t) 0 0) 10 (λ q. omega (arith, eqb-true (get_or (after_digits t) 0 0) 44 h))))

-- the newline byte ends the line, so nothing follows it there
only_newline : (t : List ℕ) → eqb (get_or t 0 0) 10 && eqb (length (first_line t)) 1 ≡ eqb (get_or t 0 0) 10
only_newline t = elim (true_or_false (eqb (get_or t 0 0) 10)) [ inl e ↦ rw (ended_first t e, e) | inr e ↦ rw e ]

pub line_begins : (t : List ℕ) → is_line (first_line t) ≡ begins_line t
unfolding is_line begins_line
line_begins t =
    rw (digits_first, after_first, byte_first)
    (ap (λ (x : Bool). is_number (digits_in t) && x)
    (elim (true_or_false (eqb (get_or (after_digits t) 0 0) 44)) [
      | inl e ↦
          rw (e, ← after_first, comma_first t e, digits_first, after_first, byte_first)
          (ap (λ (x : Bool). is_number (digits_in (after_comma t)) && x) (only_newline (after_digits (after_comma t))))
      | inr e ↦ rw e
    ]))

-- ---- the line of a pair

-- what holds of a text that begins with the line of a pair
pub record Begun (t : List ℕ) : Type 0 where
  pub code_number : is_number (digits_in t) ≡ true
  pub comma : get_or (after_digits t) 0 0 ≡ 44
  pub schedule_number : is_number (digits_in (after_comma t)) ≡ true
  pub newline : get_or (after_digits (after_comma t)) 0 0 ≡ 10

pub begun : (t : List ℕ) → begins_line t ≡ true → Begun t
unfolding begins_line
begun t h =
    let first = both_true _ _ h in
    let second = both_true _ _ first.1 in
    let third = both_true _ _ second.1 in
    record {
      code_number = first.0;
      comma = eqb-true _ _ second.0;
      schedule_number = third.0;
      newline = eqb-true _ _ third.1;
    }

pub begins : {t : List ℕ} → Begun t → begins_line t ≡ true
unfolding begins_line
begins b = rw (b.code_number, b.comma, b.schedule_number, b.newline)

-- digits stand in the first line as they stand in the text
digits_line : (t : List ℕ) → first_line t ≡ digits_in t ++ first_line (after_digits t)
digits_line t = sym (rw (digits_first, after_first) at (digits_then (first_line t)))

-- a text from its first byte on, where that is known
pub head_byte : (t : List ℕ) (b : ℕ) → 0 < b → get_or t 0 0 ≡ b → t ≡ b ∷ drop 1 t
head_byte [] b h e = absurd (omega arith)
head_byte (x ∷ t) b h e = ap (λ (y : ℕ). y ∷ t) e

module _ {t : List ℕ} (l : Begun t) where
  pub line_bytes : first_line t ≡ digits_in t ++ (44 ∷ digits_in (after_comma t) ++ (10 ∷ []))
  unfolding first_line
  line_bytes =
      rw (digits_line t, head_byte (after_digits t) 44 (omega arith) l.comma, digits_line (after_comma t))
      (ap (λ (last : List ℕ). digits_in t ++ (44 ∷ digits_in (after_comma t) ++ last))
      (ended_first (after_digits (after_comma t)) (eq-eqb _ _ l.newline)))

  pub line_length : length (first_line t) ≡ length (digits_in t) + 1 + length (digits_in (after_comma t)) + 1
  line_length = rw (line_bytes, length-append) (omega (arith, length-append (digits_in (after_comma t)) (10 ∷ [])))

  pub line_pair : pair_of (first_line t) ≡ record { code = decimal_value (digits_in t); schedule = decimal_value (digits_in (after_comma t)) }
  line_pair = rw (digits_first, comma_first t (eq-eqb _ _ l.comma), digits_first)
