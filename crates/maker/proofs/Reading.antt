-- What reading a text answers: a pair for each line, or a refusal whose value is no larger than the text, as each line has a byte.
use Prim.Native.Nat.{ℕ, suc, ◌≤◌}
use mathlib.Core.Bool.{◌||◌}
use mathlib.Core.List.{List, [], ◌∷◌}
use mathlib.Core.Logic.{inl, inr}
use mathlib.Core.Path.{◌≡◌, refl, sym, ◌∙◌}
use native.Mathlib.Omega.{arith}
use lib.Dec.{eqb, ltb}
use lib.ListN.{length, take, length-map}
use Rattle.hash.proofs.Indicators.{true_or_false}
use Rattle.prelude.specs.Answers.{Answer, given, refused, some, first_of}
use Rattle.prelude.specs.Numbers.{value_of}
use Rattle.prelude.specs.Pairs.{codes_of, schedules_of}
use Rattle.prelude.proofs.First.{first_is}
use Rattle.prelude.proofs.Refusals.{Refusal, GivenOrRefused, refusals_given_or_refused}
use Rattle.suppliers.specs.Text.{lines_of, starting_with, pairs_of_text}
use Rattle.suppliers.specs.Lists.{faulty_line, read_list_of, ListRead}
use Rattle.suppliers.specs.Answered.{text_error_of}
use Rattle.suppliers.specs.declared.read.TextError.{TextError}
use Rattle.suppliers.specs.declared.read.TextError.TheVariants.{FaultyLine, TooManyLines}
use Rattle.suppliers.proofs.ReadLaws.{read_room, read_count, codes_read_lem, schedules_read_lem}

-- ---- its answers

starting_few : (b : ℕ) (lines : List (List ℕ)) → length (starting_with b lines) ≤ suc (length lines)
starting_few b [] = omega arith
starting_few b (line ∷ lines) = omega arith

lines_few : (text : List ℕ) → length (lines_of text) ≤ length text
unfolding lines_of
lines_few [] = omega arith
lines_few (b ∷ text) =
    elim (true_or_false (eqb b 10)) [
      | inl e ↦ rw e (omega (arith, lines_few text))
      | inr e ↦ rw e (omega (arith, lines_few text, starting_few b (lines_of text)))
    ]

abbrev tests : List ℕ → ℕ → ℕ → List Refusal
tests text codes schedules =
    record { fails = some (length (lines_of text)) (faulty_line text); number = 71; value = first_of (length (lines_of text)) (faulty_line text) }
    ∷ record { fails = ltb codes (length (lines_of text)) || ltb schedules (length (lines_of text)); number = 72; value = length (lines_of text) }
    ∷ []

module _ (text : List ℕ) (codes schedules : ℕ) where
  pub read_answers : GivenOrRefused (length (lines_of text) ∷ []) (read_list_of text codes schedules)
  unfolding read_list_of
  read_answers = refusals_given_or_refused (tests text codes schedules) (length (lines_of text) ∷ [])

  pub read_value : value_of (read_list_of text codes schedules) ≤ length text
  unfolding read_list_of
  read_value =
      elim (true_or_false (some (length (lines_of text)) (faulty_line text))) [
        | inl f ↦ rw f (omega (arith, lines_few text, (first_is (length (lines_of text)) (faulty_line text)).within))
        | inr f ↦
            elim (true_or_false (ltb codes (length (lines_of text)) || ltb schedules (length (lines_of text)))) [
              | inl l ↦ rw (f, l) (lines_few text)
              | inr l ↦ rw (f, l) (lines_few text)
            ]
      ]

-- an error is a refusal
pub read_refuses : (e : TextError) → (number : ℕ) × (value : ℕ) × (text_error_of e ≡ refused number value)
read_refuses (FaultyLine line) = (71, line, refl)
read_refuses (TooManyLines lines) = (72, lines, refl)

-- ---- what it leaves

-- the first n places of both arrays hold the pairs of a text
pub record PairsHeld (text : List ℕ) (limit n : ℕ) (codes schedules : List ℕ) : Type 0 where
  pub given_is : read_list_of text limit limit ≡ given (n ∷ [])
  pub fits : n ≤ limit
  pub codes_held : take n codes ≡ codes_of (pairs_of_text text)
  pub schedules_held : take n schedules ≡ schedules_of (pairs_of_text text)
  pub codes_length : length (take n codes) ≡ n
  pub schedules_length : length (take n schedules) ≡ n

module _
    {text codes schedules : List ℕ} {answer : Answer} {codes' schedules' : List ℕ} (limit : ℕ) (k : length codes ≡ limit)
    (l : length schedules ≡ limit) (r : ListRead text codes schedules answer codes' schedules') where
  pub answer_is : answer ≡ read_list_of text limit limit
  answer_is = rw (k, l) at r.answers

  pub pairs_held : {n : ℕ} → answer ≡ given (n ∷ []) → PairsHeld text limit n codes' schedules'
  pairs_held {n} e =
      let read : ListRead text codes schedules (given (n ∷ [])) codes' schedules' = rw e at r in
      record {
        given_is = sym answer_is ∙ e;
        fits = omega (arith, (read_room read).0);
        codes_held = codes_read_lem read;
        schedules_held = schedules_read_lem read;
        codes_length = rw (codes_read_lem read) (length-map (pairs_of_text text) _ ∙ sym (read_count read));
        schedules_length = rw (schedules_read_lem read) (length-map (pairs_of_text text) _ ∙ sym (read_count read));
      }
