-- Places in a text: where digits end it goes on with what follows them, so the tests at these places say whether the line of a pair begins at
-- `at`, and where it ends.
use Prim.Native.Nat.{ℕ, ◌+◌, ◌-◌, ◌<◌, ◌≤◌}
use mathlib.Core.Bool.{Bool, true, false, ◌&&◌}
use mathlib.Core.List.{List}
use mathlib.Core.Path.{◌≡◌, refl, ap, sym, ◌∙◌}
use native.Mathlib.Decide.{dec_lt}
use native.Mathlib.Nat.{add-zero, add-sub_of_le}
use native.Mathlib.Omega.{arith}
use borrow.Author.Tests.{ne_eqb}
use lib.Dec.{eqb}
use lib.ListN.{length, get_or, drop, get_or-eq_default}
use lib.Seq.{drop-drop, get_or-drop}
use Rattle.std.specs.Prelude.{Some, None}
use Rattle.decimal.specs.Number.{digits_in, after_digits, is_number}
use Rattle.decimal.specs.code.Digits.{digits_end}
use Rattle.decimal.proofs.Numbers.{after_digits_lem, digits_at, digits_plain}
use Rattle.suppliers.specs.Text.{after_comma}
use Rattle.suppliers.specs.code.Scan.{first_line, begins_line, TextEnd, NewlineFrom, line_end}
use Rattle.suppliers.proofs.LineLaws.{begun, line_length, line_short}

-- before the end of the lines that are ended a newline byte is still to come
abbrev pub newline_ahead : {text : List ℕ} {at end : ℕ} → TextEnd text end → at < end → NewlineFrom text at
newline_ahead {end = end} e h = record { place = end - 1; later = omega arith; newline = e.newline (omega arith) }

-- digits, and the line that they stand in, end at the next newline byte at the latest
module _ {text : List ℕ} {at : ℕ} (n : NewlineFrom text at) where
  newline_from : get_or (drop at text) (n.place - at) 0 ≡ 10
  newline_from = get_or-drop at text (n.place - at) 0 ∙ rw (add-sub_of_le n.later) n.newline

  pub line_before : at + length (first_line (drop at text)) ≤ n.place + 1
  line_before = omega (arith, n.later, line_short (drop at text) (n.place - at) newline_from)

  digits_before : digits_end text at ≤ n.place
  digits_before =
      let t = drop at text in
      let i = n.place - at in
      elim (dec_lt i (length (digits_in t))) [
        | yes l ↦ absurd (omega (arith, newline_from, digits_at t i l, (digits_plain t i l).0))
        | no g ↦ omega (arith, n.later)
      ]

  pub digits_inside : digits_end text at < length text
  digits_inside =
      elim (dec_lt n.place (length text)) [
        | yes l ↦ omega (arith, digits_before)
        | no g ↦ absurd (omega (arith, n.newline, get_or-eq_default text 0 {n = n.place} (omega arith)))
      ]

  pub newline_next : {comma : ℕ} → comma ≡ digits_end text at → get_or text comma 0 ≡ 44 → NewlineFrom text (comma + 1)
  newline_next {comma} d e =
      let other : comma ≡ n.place → ⊥ = λ q. omega (arith, n.newline, ap (λ (i : ℕ). get_or text i 0) q) in
      record { place = n.place; later = omega (arith, digits_before); newline = n.newline }

module _ (text : List ℕ) (at : ℕ) {end : ℕ} (d : end ≡ digits_end text at) where
  drop_end : drop end text ≡ after_digits (drop at text)
  drop_end = rw (d, ← drop-drop, after_digits_lem)

  pub byte_end : get_or text end 0 ≡ get_or (after_digits (drop at text)) 0 0
  byte_end = sym (rw add-zero at (get_or-drop end text 0 0)) ∙ ap (λ (s : List ℕ). get_or s 0 0) drop_end

  pub drop_next : drop (end + 1) text ≡ after_comma (drop at text)
  drop_next = sym (drop-drop 1 end text) ∙ ap (drop 1) drop_end

and_false : (a : Bool) → a && false ≡ false
and_false true = refl
and_false false = refl

no_line : (text : List ℕ) (at : ℕ) → begins_line (drop at text) ≡ false → None ≡ line_end text at
unfolding line_end
no_line text at h = rw h

-- the four tests of a line: it is none where the first number or the comma is not there
module _ (text : List ℕ) (at : ℕ) {comma : ℕ} (d : comma ≡ digits_end text at) where
  pub no_comma : (get_or text comma 0 ≡ 44 → ⊥) → None ≡ line_end text at
  unfolding begins_line
  no_comma h = no_line text at (rw (← byte_end text at d, ne_eqb (get_or text comma 0) 44 h) (and_false (is_number (digits_in (drop at text)))))

  pub no_code : is_number (digits_in (drop at text)) ≡ false → None ≡ line_end text at
  unfolding begins_line
  no_code h = no_line text at (rw h)

  -- nor where the second number or the newline byte is not there
  module _ {end : ℕ} (e : end ≡ digits_end text (comma + 1)) where
    begins_is :
        begins_line (drop at text)
        ≡ is_number (digits_in (drop at text))
        && (eqb (get_or text comma 0) 44 && (is_number (digits_in (drop (comma + 1) text)) && eqb (get_or text end 0) 10))
    unfolding begins_line
    begins_is = rw (byte_end text at d, byte_end text (comma + 1) e, drop_next text at d)

    pub no_newline : (get_or text end 0 ≡ 10 → ⊥) → None ≡ line_end text at
    no_newline h = no_line text at (begins_is ∙ simp (ne_eqb (get_or text end 0) 10 h, and_false))

    pub no_schedule : is_number (digits_in (drop (comma + 1) text)) ≡ false → None ≡ line_end text at
    no_schedule h = no_line text at (begins_is ∙ simp (h, and_false))

    pub line_ends :
        is_number (digits_in (drop at text)) ≡ true → get_or text comma 0 ≡ 44
        → is_number (digits_in (drop (comma + 1) text)) ≡ true → get_or text end 0 ≡ 10 → Some (end + 1) ≡ line_end text at
    unfolding line_end
    line_ends a b c n =
        let h : begins_line (drop at text) ≡ true = begins_is ∙ rw (a, b, c, n) in
        rw (h, line_length (begun (drop at text) h), ← drop_next text at d) (ap Some (omega arith))
