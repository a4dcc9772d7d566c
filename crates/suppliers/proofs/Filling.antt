-- Filling both arrays line by line: what is left to be filled are the pairs of the lines that are left.
use Prim.Native.Nat.{ℕ, ◌+◌, ◌<◌, ◌≤◌}
use mathlib.Core.Bool.{true}
use mathlib.Core.List.{List, [], ◌∷◌, map}
use mathlib.Core.Path.{◌≡◌, ap, sym, ◌∙◌}
use native.Mathlib.Decide.{dec_lt}
use native.Mathlib.Numerals.{add-one}
use native.Mathlib.Omega.{arith}
use borrow.Author.Tests.{not-false}
use lib.ListN.{length, get_or, drop, set, length-append, length-drop}
use lib.Seq.{drop-cons}
use Rattle.prelude.specs.Pairs.{Pair}
use Rattle.decimal.specs.Number.{digits_in, after_digits, is_number}
use Rattle.decimal.specs.code.Digits.{Scannable, NumberScanned}
use Rattle.decimal.specs.declared.number.Scanned.{Scanned}
use Rattle.decimal.proofs.Added.{SoFar, start, more, one, kept}
use Rattle.decimal.proofs.Numbers.{digits_then, digits_few, number_most, passes_number}
use Rattle.suppliers.specs.Text.{lines_of, after_comma, pair_of, pairs_of_text}
use Rattle.suppliers.specs.code.Scan.{first_line, Fillable}
use Rattle.suppliers.proofs.LineLaws.{Begun, begun, line_pair, line_length}
use Rattle.suppliers.proofs.Places.{drop_next}
use Rattle.suppliers.proofs.Judging.{Through, Here, through_none, here, through_end, through_more, fault_here}

-- the values that a list of pairs gives, those of the lines from number i on being left
abbrev Left : (Pair → ℕ) → List ℕ → ℕ → List ℕ → List ℕ → Type 0
Left value text i old now = SoFar (map value (pairs_of_text text)) (map value (map pair_of (drop i (lines_of text)))) 0 old i now

-- both arrays at a place where as many lines have ended
pub record Filling (text codes schedules : List ℕ) (at i : ℕ) (codes' schedules' : List ℕ) : Type 0 where
  pub through : Through text at i
  pub codes_left : Left (λ (r : Pair). r.code) text i codes codes'
  pub schedules_left : Left (λ (r : Pair). r.schedule) text i schedules schedules'

pub filling_none : (text codes schedules : List ℕ) → Filling text codes schedules 0 0 codes schedules
unfolding pairs_of_text
filling_none text codes schedules =
    record { through = through_none text; codes_left = start _ 0 codes (omega arith); schedules_left = start _ 0 schedules (omega arith) }

drop_line : (lines : List (List ℕ)) (i : ℕ) → i < length lines → drop i lines ≡ get_or lines i [] ∷ drop (i + 1) lines
drop_line lines i h = rw add-one (drop-cons lines i [] h)

-- one value more
left_more :
    (value : Pair → ℕ) (text : List ℕ) (at i : ℕ) (old now : List ℕ) → Here text at i → Left value text i old now → i < length now
    → Left value text (i + 1) old (set now i (value (pair_of (first_line (drop at text)))))
left_more value text at i old now h l fits =
    more
    (rw (drop_line (lines_of text) i h.below, h.line) at l)
    (one (value (pair_of (first_line (drop at text)))) i now fits)

-- one line more: its numbers are words, there are places for them, and they fill these
pub record Next (text codes schedules : List ℕ) (at i : ℕ) (codes' schedules' : List ℕ) (code schedule : Scanned) : Type 0 where
  pub code_word : code.value ≤ 4294967295
  pub schedule_word : schedule.value ≤ 4294967295
  pub codes_room : i < length codes'
  pub schedules_room : i < length schedules'
  pub later : at < schedule.end + 1
  pub inside : schedule.end < length text
  pub filling : Filling text codes schedules (schedule.end + 1) (i + 1) (set codes' i code.value) (set schedules' i schedule.value)

-- a number that a byte other than 0 follows ends before the text does
scannable : (text : List ℕ) (at : ℕ) → is_number (digits_in (drop at text)) ≡ true → 0 < get_or (after_digits (drop at text)) 0 0 → Scannable text at
scannable text at e h =
    record {
      some_digit = (passes_number (drop at text) e).some_digit;
      few = digits_few (drop at text) e;
      inside =
          omega (arith, some_byte (after_digits (drop at text)) h, length-drop at text, simp length-append at (ap length (digits_then (drop at text))));
    }
  where
    some_byte : (t : List ℕ) → 0 < get_or t 0 0 → 0 < length t
    some_byte [] h = h
    some_byte (b ∷ t) h = omega arith

module _
    {text codes schedules : List ℕ} {lines : ℕ} (f : Fillable text lines codes schedules) {at i : ℕ} {codes' schedules' : List ℕ}
    (l : Filling text codes schedules at i codes' schedules') where
  -- the line from here on is that of a pair, and its pair fills the next places
  module _ (b : i < lines) where
    h : at < length text
    h =
        elim (dec_lt at (length text)) [
          | yes l ↦ l
          | no g ↦ absurd (omega (arith, f.counted, through_end l.through (omega arith)))
        ]

    line : Begun (drop at text)
    line = begun (drop at text) (not-false _ (sym (fault_here l.through h) ∙ f.right i (here l.through h).below))

    pub code_inside : Scannable text at
    code_inside = scannable text at line.code_number (omega (arith, line.comma))

    module _ {code : Scanned} (a : NumberScanned text at code) where
      after_comma_lem : drop (code.end + 1) text ≡ after_comma (drop at text)
      after_comma_lem = drop_next text at a.end

      pub schedule_inside : Scannable text (code.end + 1)
      schedule_inside = scannable text (code.end + 1) (rw after_comma_lem line.schedule_number) (rw after_comma_lem (omega (arith, line.newline)))

      module _ {schedule : Scanned} (e : NumberScanned text (code.end + 1) schedule) where
        line_ended : schedule.end + 1 ≡ at + length (first_line (drop at text))
        line_ended = omega (arith, a.end, rw after_comma_lem at e.end, line_length line)

        pub next : Next text codes schedules at i codes' schedules' code schedule
        next =
            let pair = line_pair line in
            let codes_fit : i < length codes' = omega (arith, (here l.through h).below, f.codes_room, kept l.codes_left.added) in
            let schedules_fit : i < length schedules' = omega (arith, (here l.through h).below, f.schedules_room, kept l.schedules_left.added) in
            record {
              code_word = rw a.value (number_most (digits_in (drop at text)) line.code_number);
              schedule_word = rw (e.value, after_comma_lem) (number_most (digits_in (after_comma (drop at text))) line.schedule_number);
              codes_room = codes_fit;
              schedules_room = schedules_fit;
              later = omega (arith, line_ended, (here l.through h).some_byte);
              inside = omega (arith, e.end, schedule_inside.inside);
              filling =
                  record {
                    through = rw line_ended (through_more l.through h);
                    codes_left =
                        rw (a.value, sym (ap (λ (r : Pair). r.code) pair))
                        (left_more _ text at i codes codes' (here l.through h) l.codes_left codes_fit);
                    schedules_left =
                        rw (e.value, after_comma_lem, sym (ap (λ (r : Pair). r.schedule) pair))
                        (left_more _ text at i schedules schedules' (here l.through h) l.schedules_left schedules_fit);
                  };
            }
