-- None of 1 to 5 refuses a list exactly if it is valid.
use Prim.Native.Nat.{ℕ, ◌-◌, ◌<◌}
use native.Mathlib.Omega.{arith}
use mathlib.Core.Bool.{Bool, true, false, not, true≢false}
use mathlib.Core.List.{List, [], ◌∷◌}
use mathlib.Core.Logic.{◌↔◌}
use mathlib.Core.Path.{◌≡◌, refl, sym, ◌∙◌}
use borrow.Author.Tests.{eq-eqb, le-ltb, eqb-true, ltb-false, not-false}
use lib.Dec.{eqb, ltb}
use lib.ListN.{length, get_or, take}
use lib.Seq.{get_or-take, length-take-le}
use Rattle.hash.specs.Hash.{Codes}
use Rattle.prelude.specs.Answers.{Answer, given, refuse, or_refused, first_of, some}
use Rattle.prelude.proofs.Among.{among_at, among_none}
use Rattle.prelude.proofs.First.{Below, none_refused}
use Rattle.prelude.proofs.Laws.{within}
use Rattle.prelude.proofs.Refusals.{Refusal, refusals_given}
use Rattle.repeats.specs.Repeated.{repeated}
use Rattle.lists.specs.List.{bad_code, bad_schedule, list_or}
use Rattle.lists.specs.Valid.{Valid}

-- ---- the refusals of a list

abbrev pub tests : ℕ → ℕ → List ℕ → List ℕ → List Refusal
tests p limit codes schedules =
    record { fails = not (eqb (length codes) (length schedules)); number = 1; value = 0 }
    ∷ record { fails = ltb limit (length codes); number = 2; value = 0 }
    ∷ record { fails = some (length codes) (bad_code p codes); number = 3; value = first_of (length codes) (bad_code p codes) }
    ∷ record { fails = some (length codes) (bad_schedule schedules); number = 4; value = first_of (length codes) (bad_schedule schedules) }
    ∷ record { fails = some (length codes) (repeated codes); number = 5; value = first_of (length codes) (repeated codes) }
    ∷ []

-- what follows refusals follows their own answer
abbrev pub then_or : List Refusal → Answer → Answer
then_or [] rest = rest
then_or (r ∷ refusals) rest = refuse r.fails r.number r.value (then_or refusals rest)

refuse_first_lem :
    (fails : Bool) (number value : ℕ) (x y rest : Answer) → y ≡ or_refused x rest
    → refuse fails number value y ≡ or_refused (refuse fails number value x) rest
refuse_first_lem true number value x y rest e = refl
refuse_first_lem false number value x y rest e = e

then_first : (refusals : List Refusal) (rest : Answer) → then_or refusals rest ≡ or_refused (then_or refusals (given [])) rest
then_first [] rest = refl
then_first (r ∷ refusals) rest =
    refuse_first_lem r.fails r.number r.value (then_or refusals (given [])) (then_or refusals rest) rest (then_first refusals rest)

pub list_first :
    (p limit : ℕ) (codes schedules : List ℕ) (rest : Answer)
    → list_or p limit codes schedules rest ≡ or_refused (list_or p limit codes schedules (given [])) rest
unfolding list_or
list_first p limit codes schedules rest = then_first (tests p limit codes schedules) rest

-- ---- a valid list passes each test

module _ {p limit : ℕ} {codes schedules : List ℕ} (v : Valid p limit codes schedules) where
  abbrev c : Codes p codes
  c = v.codes_valid

  codes_in_range : Below (bad_code p codes) (length codes)
  unfolding bad_code
  codes_in_range i l =
      rw (le-ltb (get_or codes i 0) 1 (c.positive i l), le-ltb (p - 1) (get_or codes i 0) (omega (arith, c.below i l)))

  codes_once : Below (repeated codes) (length codes)
  unfolding repeated
  codes_once i l =
      among_none (get_or codes i 0) (take i codes)
      (λ j h e.
      let m : j < i = omega (arith, length-take-le i codes (omega arith)) in
      c.different j i m l (sym (get_or-take i codes j 0 m) ∙ e))

  schedules_in_range : Below (bad_schedule schedules) (length codes)
  unfolding bad_schedule
  schedules_in_range i l =
      rw (le-ltb (get_or schedules i 0) 1 (v.schedules_from_one i l), le-ltb 999 (get_or schedules i 0) (v.schedules_to_999 i l))

  pub valid_passes : (rest : Answer) → list_or p limit codes schedules rest ≡ rest
  unfolding list_or
  valid_passes rest =
      rw (
        eq-eqb (length codes) (length schedules) (sym v.parallel),
        le-ltb limit (length codes) v.few,
        (none_refused (length codes) (bad_code p codes)).1 codes_in_range,
        (none_refused (length codes) (bad_schedule schedules)).1 schedules_in_range,
        (none_refused (length codes) (repeated codes)).1 codes_once,
      )

-- ---- a list that passes each test is valid

module _ (p limit : ℕ) (codes schedules : List ℕ) (e : list_or p limit codes schedules (given []) ≡ given []) where
  pub passes_valid : Valid p limit codes schedules
  unfolding list_or bad_code bad_schedule repeated
  passes_valid =
      let h = refusals_given (tests p limit codes schedules) [] [] e in
      let good = (none_refused (length codes) (bad_code p codes)).0 h.1.1.0 in
      let scheduled = (none_refused (length codes) (bad_schedule schedules)).0 h.1.1.1.0 in
      let once = (none_refused (length codes) (repeated codes)).0 h.1.1.1.1.0 in
      record {
        parallel = sym (eqb-true _ _ (not-false _ h.0));
        few = ltb-false _ _ h.1.0;
        codes_valid =
            record {
              positive = λ i l. (within 1 (p - 1) (get_or codes i 0) (good i l)).0;
              below = λ i l. omega (arith, within 1 (p - 1) (get_or codes i 0) (good i l));
              different = λ i j l m same. true≢false (sym (among_at (get_or codes j 0) codes i j l (omega arith) same) ∙ once j m);
            };
        schedules_from_one = λ i l. (within 1 999 (get_or schedules i 0) (scheduled i l)).0;
        schedules_to_999 = λ i l. (within 1 999 (get_or schedules i 0) (scheduled i l)).1;
      }

pub valid_exactly :
    (p limit : ℕ) (codes schedules : List ℕ) → (list_or p limit codes schedules (given []) ≡ given []) ↔ Valid p limit codes schedules
valid_exactly p limit codes schedules = (passes_valid p limit codes schedules, λ v. valid_passes v (given []))
