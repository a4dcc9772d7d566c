-- What writing a text answers, and the list of its pairs.
use Prim.Native.Nat.{ℕ, ◌≤◌}
use native.Mathlib.Omega.{arith}
use mathlib.Core.Bool.{not}
use mathlib.Core.List.{List, [], ◌∷◌}
use mathlib.Core.Path.{◌≡◌, refl, ap, ◌∙◌}
use borrow.Author.Tests.{le-ltb, eq-eqb, eqb-true, not-false}
use lib.Dec.{eqb, ltb}
use lib.ListN.{length}
use Rattle.prelude.specs.Answers.{Answer, given, over}
use Rattle.prelude.specs.Pairs.{codes_of, schedules_of, paired}
use Rattle.prelude.proofs.Refusals.{Refusal, refusals_given, refusals_pass}
use Rattle.suppliers.specs.Lists.{list_text, write_list_of, ListWritten}

module _ (limit : ℕ) (codes schedules text : List ℕ) where
  pub writes_all :
      length codes ≡ length schedules → length codes ≤ limit → length (list_text codes schedules) ≤ length text
      → write_list_of limit codes schedules (length text) ≡ given (length (list_text codes schedules) ∷ [])
  unfolding write_list_of
  writes_all same few room =
      rw (
        eq-eqb (length codes) (length schedules) same,
        le-ltb limit (length codes) few,
        le-ltb (length text) (length (list_text codes schedules)) room,
      )

  -- what is written leaves these bytes
  pub written :
      (answer : Answer) (text' : List ℕ) → write_list_of limit codes schedules (length text) ≡ given (length (list_text codes schedules) ∷ [])
      → ListWritten limit codes schedules text answer text'
      → (answer ≡ given (length (list_text codes schedules) ∷ [])) × (text' ≡ over (list_text codes schedules) text)
  written answer text' g w = (w.answers ∙ g, w.text_at_exit ∙ rw g)

  tests : List Refusal
  tests =
      record { fails = not (eqb (length codes) (length schedules)); number = 1; value = 0 }
      ∷ record { fails = ltb limit (length codes); number = 2; value = 0 }
      ∷ record { fails = ltb (length text) (length (list_text codes schedules)); number = 72; value = length (list_text codes schedules) }
      ∷ []

  -- a list that was written has equal lengths
  pub written_same :
      (bytes : ℕ) → write_list_of limit codes schedules (length text) ≡ given (bytes ∷ []) → length codes ≡ length schedules
  unfolding write_list_of tests
  written_same bytes e = eqb-true _ _ (not-false _ (refusals_given tests (length (list_text codes schedules) ∷ []) (bytes ∷ []) e).0)

  pub written_given :
      (bytes : ℕ) → write_list_of limit codes schedules (length text) ≡ given (bytes ∷ [])
      → write_list_of limit codes schedules (length text) ≡ given (length (list_text codes schedules) ∷ [])
  unfolding write_list_of tests
  written_given bytes e = refusals_pass tests _ (refusals_given tests (length (list_text codes schedules) ∷ []) (bytes ∷ []) e)

-- codes and schedules of one length are those of their pairs
pub paired_codes : (codes schedules : List ℕ) → length codes ≡ length schedules → codes_of (paired codes schedules) ≡ codes
unfolding paired
paired_codes [] schedules e = refl
paired_codes (a ∷ codes) [] e = absurd (omega arith)
paired_codes (a ∷ codes) (s ∷ schedules) e = ap (λ (l : List ℕ). a ∷ l) (paired_codes codes schedules (omega arith))

pub paired_schedules : (codes schedules : List ℕ) → length codes ≡ length schedules → schedules_of (paired codes schedules) ≡ schedules
unfolding paired
paired_schedules [] [] e = refl
paired_schedules [] (s ∷ schedules) e = absurd (omega arith)
paired_schedules (a ∷ codes) [] e = absurd (omega arith)
paired_schedules (a ∷ codes) (s ∷ schedules) e = ap (λ (l : List ℕ). s ∷ l) (paired_schedules codes schedules (omega arith))
