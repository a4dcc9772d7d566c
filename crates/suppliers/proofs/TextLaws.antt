-- A text of a list has the lines of its pairs, none of them faulty, and a text without a faulty line is the text of its pairs; since a number has one
-- form in decimal, there is one text for a list.
use Prim.Native.Nat.{ℕ, zero, suc, ◌<◌, ◌≤◌}
use mathlib.Core.Bool.{true}
use mathlib.Core.List.{List, [], ◌∷◌, ◌++◌, append_assoc}
use mathlib.Core.Path.{◌≡◌, refl, ap, sym, ◌∙◌}
use native.Mathlib.Omega.{arith}
use borrow.Author.Tests.{eqb-true}
use lib.ListN.{length, get_or, drop, length-append}
use lib.Seq.{drop-append_seam}
use Rattle.prelude.specs.Pairs.{Pair, paired}
use Rattle.decimal.specs.Decimal.{decimal}
use Rattle.decimal.specs.Number.{digits_in, after_digits}
use Rattle.decimal.proofs.Numbers.{digits_before, after_before, number_passes, passes_number, decimal_number, number_decimal, digits_then}
use Rattle.lines.specs.Lines.{pair_line, pair_lines}
use Rattle.suppliers.specs.Text.{Line, TextOf, lines_of, after_comma, is_line, pair_of, pairs_of_text}
use Rattle.suppliers.specs.code.Scan.{first_line, after_line}
use Rattle.suppliers.proofs.LineLaws.{both_true, head_byte, line_then, lines_cons, line_begins, Begun, begins, line_bytes, line_pair}
use Rattle.suppliers.proofs.Judging.{line_some}

lines_some : (t : List ℕ) → 0 < length t → lines_of t ≡ first_line t ∷ lines_of (after_line t)
lines_some [] h = absurd (omega arith)
lines_some (b ∷ t) h = lines_cons b t

-- ---- a text that begins with the line of a pair

module _ {line : List ℕ} {r : Pair} (l : Line line r) (rest : List ℕ) where
  code_end : line ++ rest ≡ l.code_digits ++ (44 ∷ (l.schedule_digits ++ (10 ∷ rest)))
  code_end = rw l.bytes (simp append_assoc)

  code_digits : digits_in (line ++ rest) ≡ l.code_digits
  code_digits = rw code_end (digits_before l.code_digits 44 (l.schedule_digits ++ (10 ∷ rest)) l.code_there.plain refl)

  comma_on : after_digits (line ++ rest) ≡ 44 ∷ (l.schedule_digits ++ (10 ∷ rest))
  comma_on = rw code_end (after_before l.code_digits 44 (l.schedule_digits ++ (10 ∷ rest)) l.code_there.plain refl)

  schedule_digits : digits_in (after_comma (line ++ rest)) ≡ l.schedule_digits
  schedule_digits = rw comma_on (digits_before l.schedule_digits 10 rest l.schedule_there.plain refl)

  newline_on : after_digits (after_comma (line ++ rest)) ≡ 10 ∷ rest
  newline_on = rw comma_on (after_before l.schedule_digits 10 rest l.schedule_there.plain refl)

  line_begun : Begun (line ++ rest)
  line_begun =
      record {
        code_number = rw code_digits (number_passes l.code_there);
        comma = rw comma_on;
        schedule_number = rw schedule_digits (number_passes l.schedule_there);
        newline = rw newline_on;
      }

  first_is : first_line (line ++ rest) ≡ line
  first_is = line_bytes line_begun ∙ rw (code_digits, schedule_digits) (sym l.bytes)

  after_is : after_line (line ++ rest) ≡ rest
  after_is =
      sym (drop-append_seam line (after_line (line ++ rest)))
      ∙ ap (drop (length line)) (rw first_is at (line_then (line ++ rest)))
      ∙ drop-append_seam line rest

  pub lines_first : lines_of (line ++ rest) ≡ line ∷ lines_of rest
  lines_first =
      let some : 0 < length (line ++ rest) =
      rw l.bytes (simp length-append (omega arith))
      in
      rw (lines_some (line ++ rest) some, first_is, after_is)

  pub line_right : is_line line ≡ true
  line_right = sym (ap is_line first_is) ∙ line_begins (line ++ rest) ∙ begins line_begun

  pub pair_is : pair_of line ≡ r
  pair_is =
      sym (ap pair_of first_is) ∙ line_pair line_begun ∙ rw (code_digits, schedule_digits, l.code_there.value, l.schedule_there.value)

-- ---- a text of a list

-- each of these lines is that of a pair
abbrev pub AllRight : List (List ℕ) → Type 0
AllRight lines = (i : ℕ) → i < length lines → is_line (get_or lines i []) ≡ true

right_cons : (line : List ℕ) (lines : List (List ℕ)) → is_line line ≡ true → AllRight lines → AllRight (line ∷ lines)
right_cons line lines h all zero l = h
right_cons line lines h all (suc i) l = all i (omega arith)

pub text_right : (pairs : List Pair) (text : List ℕ) → TextOf pairs text → AllRight (lines_of text)
unfolding TextOf lines_of
text_right [] text e = rw e (λ i l. absurd (omega arith))
text_right (r ∷ pairs) text (line, rest, l, t, e) =
    rw (e, lines_first l rest) (right_cons line (lines_of rest) (line_right l rest) (text_right pairs rest t))

pub text_pairs : (pairs : List Pair) (text : List ℕ) → TextOf pairs text → pairs_of_text text ≡ pairs
unfolding TextOf pairs_of_text lines_of
text_pairs [] text e = rw e
text_pairs (r ∷ pairs) text (line, rest, l, t, e) =
    rw (e, lines_first l rest, pair_is l rest) (ap (λ (others : List Pair). r ∷ others) (text_pairs pairs rest t))

-- a right line is that of its pair
one_byte : (t : List ℕ) → length t ≡ 1 → get_or t 0 0 ≡ 10 → t ≡ 10 ∷ []
one_byte [] n e = absurd (omega arith)
one_byte (b ∷ []) n e = ap (λ (x : ℕ). x ∷ []) e
one_byte (b ∷ x ∷ t) n e = absurd (omega arith)

pub right_line : (line : List ℕ) → is_line line ≡ true → Line line (pair_of line)
unfolding is_line
right_line line h =
    let code = both_true _ _ h in
    let comma = both_true _ _ code.1 in
    let schedule = both_true _ _ comma.1 in
    let newline = both_true _ _ schedule.1 in
    let last = one_byte (after_digits (after_comma line)) (eqb-true _ _ newline.1) (eqb-true _ _ newline.0) in
    record {
      code_digits = digits_in line;
      schedule_digits = digits_in (after_comma line);
      code_there = passes_number line code.0;
      schedule_there = passes_number (after_comma line) schedule.0;
      bytes =
          sym (digits_then line)
          ∙ ap (λ (t : List ℕ). digits_in line ++ t)
          (head_byte (after_digits line) 44 (omega arith) (eqb-true _ _ comma.0)
          ∙ ap (λ (t : List ℕ). 44 ∷ t) (sym (digits_then (after_comma line)) ∙ ap (λ (t : List ℕ). digits_in (after_comma line) ++ t) last));
    }

-- where the rest of a right text is the text of its pairs, so is the whole
right_first :
    (text : List ℕ) → ((rest : List ℕ) → length rest < length text → AllRight (lines_of rest) → TextOf (pairs_of_text rest) rest)
    → AllRight (lines_of text) → TextOf (pairs_of_text text) text
unfolding TextOf pairs_of_text lines_of
right_first [] shorter all = refl
right_first (b ∷ t) shorter all =
    let text = b ∷ t in
    let lines = rw (lines_cons b t) at all in
    let less : length (after_line text) < length text =
    omega (arith, line_some text (omega arith), length-append (first_line text) (after_line text), ap length (line_then text))
    in
    rw (lines_cons b t) (
      first_line text,
      after_line text,
      right_line (first_line text) (lines 0 (omega arith)),
      shorter (after_line text) less (λ i l. lines (suc i) (omega arith)),
      sym (line_then text),
    )

right_text : (n : ℕ) (text : List ℕ) → length text ≤ n → AllRight (lines_of text) → TextOf (pairs_of_text text) text
right_text zero text h = right_first text (λ rest l. absurd (omega arith))
right_text (suc n) text h = right_first text (λ rest l. right_text n rest (omega arith))

pub text_of_right : (text : List ℕ) → AllRight (lines_of text) → TextOf (pairs_of_text text) text
text_of_right text = right_text (length text) text (omega arith)

-- ---- the one text of a list

pub text_is : (pairs : List Pair) (text : List ℕ) → TextOf pairs text → text ≡ pair_lines 44 pairs
unfolding TextOf pair_lines pair_line
text_is [] text e = e
text_is (r ∷ pairs) text (line, rest, l, t, e) =
    rw (e, l.bytes, number_decimal l.code_there, number_decimal l.schedule_there, text_is pairs rest t)

-- any words are written
pub text_written :
    (codes schedules : List ℕ) → ((i : ℕ) → i < length codes → get_or codes i 0 ≤ 4294967295)
    → ((i : ℕ) → i < length schedules → get_or schedules i 0 ≤ 4294967295)
    → TextOf (paired codes schedules) (pair_lines 44 (paired codes schedules))
unfolding TextOf pair_lines pair_line paired
text_written [] schedules a b = refl
text_written (x ∷ codes) [] a b = refl
text_written (x ∷ codes) (y ∷ schedules) a b = (
  pair_line 44 x y,
  pair_lines 44 (paired codes schedules),
  record {
    code_digits = decimal x;
    schedule_digits = decimal y;
    code_there = decimal_number x (a 0 (omega arith));
    schedule_there = decimal_number y (b 0 (omega arith));
    bytes = refl;
  },
  text_written codes schedules (λ i l. a (suc i) (omega arith)) (λ i l. b (suc i) (omega arith)),
  refl,
)
