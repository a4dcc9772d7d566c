-- Going through a text line by line: at a place where as many lines as are counted have ended, the lines from there on are the others. A line that
-- is that of a pair leads to the next such place; the first other one is the first faulty line.
use Prim.Native.Nat.{ℕ, suc, ◌+◌, ◌<◌, ◌≤◌}
use mathlib.Core.Bool.{true, not}
use mathlib.Core.List.{List, [], ◌∷◌}
use mathlib.Core.Logic.{inl, inr}
use mathlib.Core.Path.{◌≡◌, refl, ap, sym, ◌∙◌}
use native.Mathlib.Nat.{add-zero}
use native.Mathlib.Omega.{arith}
use borrow.Author.Tests.{le-ltb, lt-ltb}
use lib.Dec.{eqb}
use lib.ListN.{length, get_or, drop, length-append, length-drop, drop_of_length-le}
use lib.Seq.{drop-cons, drop-drop, get_or-drop}
use Rattle.std.specs.Prelude.{Option, Some, None}
use Rattle.decimal.specs.code.Digits.{digits_end}
use Rattle.hash.proofs.Indicators.{true_or_false}
use Rattle.prelude.specs.Answers.{given, refused}
use Rattle.prelude.proofs.First.{Below, below_next, first_found, first_end}
use Rattle.suppliers.specs.Text.{lines_of}
use Rattle.suppliers.specs.Lists.{faulty_line}
use Rattle.suppliers.specs.code.Scan.{first_line, after_line, begins_line, TextEnd, line_end, judge_of}
use Rattle.suppliers.proofs.LineLaws.{line_then, after_line_lem, lines_cons, line_begins}
use Rattle.suppliers.proofs.Places.{newline_ahead, line_before, no_newline}

-- as many lines have ended at this place, and the others begin there
pub record Through (text : List ℕ) (at lines : ℕ) : Type 0 where
  pub within : at ≤ length text
  pub few : lines ≤ at
  pub counted : lines ≤ length (lines_of text)
  pub rest : lines_of (drop at text) ≡ drop lines (lines_of text)

pub through_none : (text : List ℕ) → Through text 0 0
through_none text = record { within = omega arith; few = omega arith; counted = omega arith; rest = refl }

-- the line from here on is the one with this number
pub record Here (text : List ℕ) (at lines : ℕ) : Type 0 where
  pub below : lines < length (lines_of text)
  pub line : get_or (lines_of text) lines [] ≡ first_line (drop at text)
  pub others : drop (lines + 1) (lines_of text) ≡ lines_of (after_line (drop at text))
  pub some_byte : 0 < length (first_line (drop at text))

-- an element, and what follows it
first_of :
    (l : List (List ℕ)) (i : ℕ) (x : List ℕ) (rest : List (List ℕ)) → drop i l ≡ x ∷ rest
    → (i < length l) × (get_or l i [] ≡ x) × (drop (i + 1) l ≡ rest)
first_of l i x rest e = (
  omega (arith, length-drop i l, ap length e),
  rw add-zero at (sym (get_or-drop i l 0 []) ∙ ap (λ (s : List (List ℕ)). get_or s 0 []) e),
  sym (drop-drop 1 i l) ∙ ap (drop 1) e,
)

pub line_some : (t : List ℕ) → 0 < length t → 0 < length (first_line t)
unfolding first_line
line_some [] h = h
line_some (b ∷ t) h = elim (true_or_false (eqb b 10)) [ inl e ↦ rw e (omega arith) | inr e ↦ rw e (omega arith) ]

line_within : (t : List ℕ) → length (first_line t) ≤ length t
line_within t = omega (arith, length-append (first_line t) (after_line t), ap length (line_then t))

module _ {text : List ℕ} {at lines : ℕ} (t : Through text at lines) where
  pub here : at < length text → Here text at lines
  here h =
      let cut = drop-cons text at 0 h in
      let found = first_of (lines_of text) lines _ _ (sym t.rest ∙ ap lines_of cut ∙ lines_cons (get_or text at 0) (drop (suc at) text)) in
      record {
        below = found.0;
        line = rw cut found.1;
        others = rw cut found.2;
        some_byte = line_some (drop at text) (omega (arith, length-drop at text));
      }

  pub through_end : length text ≤ at → lines ≡ length (lines_of text)
  unfolding lines_of
  through_end h =
      omega (arith, t.counted, length-drop lines (lines_of text), ap length (sym t.rest ∙ ap lines_of (drop_of_length-le text h)))

  pub through_more : at < length text → Through text (at + length (first_line (drop at text))) (lines + 1)
  through_more h =
      let l = here h in
      record {
        within = omega (arith, line_within (drop at text), length-drop at text);
        few = omega (arith, t.few, l.some_byte);
        counted = omega (arith, l.below);
        rest = rw (← drop-drop, after_line_lem, l.others);
      }

  -- the line from here on is faulty exactly if it is not that of a pair
  pub fault_here : at < length text → faulty_line text lines ≡ not (begins_line (drop at text))
  unfolding faulty_line
  fault_here h = rw ((here h).line, line_begins)

-- a line of a pair ends where its bytes do
ended :
    (text : List ℕ) (at : ℕ) {next : ℕ} → line_end text at ≡ Some next
    → (begins_line (drop at text) ≡ true) × (next ≡ at + length (first_line (drop at text)))
unfolding line_end
ended text at {next} h =
    elim (true_or_false (begins_line (drop at text))) [
      | inl e ↦ let f : Some (at + length (first_line (drop at text))) ≡ Some next = rw e at h in (e, cc)
      | inr e ↦ let f : ◌≡◌ {A = Option ℕ} None (Some next) = rw e at h in absurd cc
    ]

-- and no line before it is faulty
pub record Judging (text : List ℕ) (at lines : ℕ) : Type 0 where
  pub through : Through text at lines
  pub good : Below (faulty_line text) lines

module _ {text : List ℕ} {at lines : ℕ} (j : Judging text at lines) where
  pub judging_all : length text ≤ at → given (lines ∷ []) ≡ judge_of text
  unfolding judge_of
  judging_all h =
      let end = through_end j.through h in
      rw (← end, first_end lines (faulty_line text) lines (omega arith) (omega arith) j.good, le-ltb lines lines (omega arith))

  module _ (h : at < length text) where
    pub judging_fault : None ≡ line_end text at → refused 71 lines ≡ judge_of text
    unfolding judge_of line_end
    judging_fault e =
        elim (true_or_false (begins_line (drop at text))) [
          | inl b ↦ let f : ◌≡◌ {A = Option ℕ} None (Some (at + length (first_line (drop at text)))) = rw b at e in absurd cc
          | inr b ↦
              let l = here j.through h in
              let first = first_found _ (faulty_line text) lines l.below j.good (fault_here j.through h ∙ ap not b) in
              rw (first, lt-ltb lines (length (lines_of text)) l.below)
        ]

    -- without a newline byte from here on no line of a pair is ended
    pub judging_open : ((i : ℕ) → at ≤ i → get_or text i 0 ≡ 10 → ⊥) → refused 71 lines ≡ judge_of text
    judging_open none =
        let end = digits_end text (digits_end text at + 1) in
        judging_fault (no_newline text at refl refl (none end (omega arith)))

    module _ {next : ℕ} (n : line_end text at ≡ Some next) where
      pub judging_later : at < next
      judging_later = omega (arith, (ended text at n).1, (here j.through h).some_byte)

      pub judging_within : {end : ℕ} → TextEnd text end → at < end → next ≤ end
      judging_within e l = omega (arith, (ended text at n).1, line_before (newline_ahead e l))

      pub judging_more : Judging text next (lines + 1)
      judging_more =
          record {
            through = rw (ended text at n).1 (through_more j.through h);
            good = below_next (faulty_line text) lines j.good (fault_here j.through h ∙ ap not (ended text at n).0);
          }
