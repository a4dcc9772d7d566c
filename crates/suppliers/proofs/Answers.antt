-- The answer of reading is that of judging the lines, and where these are right the lent places decide.
use Prim.Native.Nat.{ℕ, ◌<◌, ◌≤◌, min}
use mathlib.Core.Bool.{false}
use mathlib.Core.List.{List, [], ◌∷◌}
use mathlib.Core.Logic.{◌⊎◌, inl, inr}
use mathlib.Core.Path.{◌≡◌, refl, sym, ap, ◌∙◌}
use native.Mathlib.Decide.{dec_lt}
use native.Mathlib.Omega.{arith}
use lib.ListN.{length}
use Rattle.hash.proofs.Indicators.{true_or_false}
use Rattle.prelude.specs.Answers.{given, refused, first_of}
use Rattle.prelude.proofs.First.{none_refused}
use Rattle.prelude.proofs.Refusals.{never_both}
use Rattle.suppliers.specs.Text.{lines_of}
use Rattle.suppliers.specs.Lists.{faulty_line, read_list_of, ListRead}
use Rattle.suppliers.specs.Answered.{text_error_of}
use Rattle.suppliers.specs.declared.read.TextError.{TextError}
use Rattle.suppliers.specs.declared.read.TextError.TheVariants.{FaultyLine, TooManyLines}
use Rattle.suppliers.specs.code.Scan.{judge_of, Fillable, Filled}
use Rattle.suppliers.proofs.ReadLaws.{some_faulty, short_72, enough_read}

-- an error is a refusal
not_given : (e : TextError) (values : List ℕ) → text_error_of e ≡ given values → ⊥
not_given (FaultyLine line) values g = never_both {number = 71} {value = line} refl g
not_given (TooManyLines lines) values g = never_both {number = 72} {value = lines} refl g

module _ (text : List ℕ) where
  -- a faulty line
  pub read_faulty : (e : TextError) → text_error_of e ≡ judge_of text → (codes schedules : List ℕ) → ListRead text codes schedules (text_error_of e) codes schedules
  unfolding judge_of read_list_of
  read_faulty e j codes schedules =
      elim (true_or_false (some_faulty text)) [
        | inl t ↦
            let same : text_error_of e ≡ refused 71 (first_of (length (lines_of text)) (faulty_line text)) = rw t at j in
            record { answers = rw (t, same); codes_at_exit = rw t; schedules_at_exit = rw t }
        | inr f ↦ absurd (not_given e _ (rw f at j))
      ]

  -- none is
  module _ {lines : ℕ} (e : given (lines ∷ []) ≡ judge_of text) where
    none_faulty : some_faulty text ≡ false
    unfolding judge_of
    none_faulty =
        elim (true_or_false (some_faulty text)) [
          | inl t ↦ never_both (rw t at e) refl
          | inr f ↦ f
        ]

    counted : lines ≡ length (lines_of text)
    unfolding judge_of
    counted = let g : given (lines ∷ []) ≡ given (length (lines_of text) ∷ []) = rw none_faulty at e in cc

    module _ (codes schedules : List ℕ) where
      pub read_short : min (length codes) (length schedules) < lines → ListRead text codes schedules (refused 72 lines) codes schedules
      read_short l =
          let few : (length codes < lines) ⊎ (length schedules < lines) =
          elim (dec_lt (length codes) lines) [ yes c ↦ inl c | no m ↦ inr (omega arith) ] in
          let s = short_72 text none_faulty (length codes) (length schedules) (rw counted at few) ∙ ap (refused 72) (sym counted) in
          record { answers = sym s; codes_at_exit = rw s; schedules_at_exit = rw s }

      module _ (room : lines ≤ min (length codes) (length schedules)) where
        pub fillable : Fillable text lines codes schedules
        fillable =
            record {
              counted = counted;
              right = (none_refused (length (lines_of text)) (faulty_line text)).0 none_faulty;
              codes_room = omega (arith, counted);
              schedules_room = omega (arith, counted);
            }

        pub read_all :
            {codes' schedules' : List ℕ} → Filled text codes schedules codes' schedules'
            → ListRead text codes schedules (given (lines ∷ [])) codes' schedules'
        read_all f =
            let s =
            enough_read text none_faulty (length codes) (length schedules) (omega (arith, counted)) (omega (arith, counted))
            ∙ ap (λ (n : ℕ). given (n ∷ [])) (sym counted)
            in
            record { answers = sym s; codes_at_exit = rw s f.codes_at_exit; schedules_at_exit = rw s f.schedules_at_exit }
