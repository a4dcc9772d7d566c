-- A check accepts exactly the well-formed tables, and gives nothing else than n and the total of one.
use Prim.Native.Nat.{ℕ, ◌*◌, ◌-◌, ◌<◌}
use mathlib.Core.Bool.{Bool, false, not}
use mathlib.Core.List.{List, [], ◌∷◌}
use mathlib.Core.Logic.{◌↔◌}
use mathlib.Core.Path.{◌≡◌, refl}
use native.Mathlib.Decide.{ℕ_discrete}
use native.Mathlib.Omega.{arith}
use borrow.Author.Tests.{ltb-false, eqb-true, not-false, eq-eqb, ne_eqb, le-ltb}
use lib.Dec.{eqb, ltb}
use lib.ListN.{length}
use Rattle.prelude.specs.Answers.{given, first_of}
use Rattle.table.specs.Words.{code_count, cell_count, multiplier, total}
use Rattle.table.specs.Sizes.{too_many_codes, too_many_cells, bad_multiplier, too_short}
use Rattle.table.specs.code.Sized.{Sized}
use Rattle.table.proofs.Sizing.{sized_by}
use Rattle.prelude.proofs.First.{none_refused}
use Rattle.prelude.proofs.Refusals.{Refusal, Passed, GivenOrRefused, refusals_pass, refusals_given, refusals_given_or_refused}
use Rattle.audit.specs.Check.{check_of, bad_start, bad_block_multiplier, bad_cell, misplaced, bad_square, codes_in, all_codes}
use Rattle.audit.specs.WellFormed.{WellFormed}
use Rattle.audit.specs.code.Starts.{Starts}
use Rattle.audit.proofs.Bounds.{some_codes}
use Rattle.audit.proofs.Passing.{starts_pass, starts_hold, multiplier_passes, cell_passes, place_passes, square_passes}

unfoldable pub first_refusal : ℕ → (ℕ → Bool) → ℕ → Refusal
first_refusal n test number = record { fails = ltb (first_of n test) n; number = number; value = first_of n test }

-- the tests of a check, in the paper's order
unfoldable pub tests : ℕ → ℕ → List ℕ → List Refusal
unfolding first_refusal
tests p limit words =
    record { fails = ltb (length words) 3; number = 11; value = 0 }
    ∷ record { fails = too_many_codes limit words; number = 12; value = 0 }
    ∷ record { fails = too_many_cells words; number = 13; value = 0 }
    ∷ record { fails = bad_multiplier p words; number = 14; value = 0 }
    ∷ record { fails = too_short words; number = 15; value = total words }
    ∷ first_refusal (code_count words) (bad_start words) 16
    ∷ first_refusal (code_count words) (bad_block_multiplier p words) 17
    ∷ first_refusal (cell_count words) (bad_cell p words) 18
    ∷ first_refusal (cell_count words) (misplaced p words) 19
    ∷ first_refusal (code_count words) (bad_square words) 20
    ∷ record { fails = not (eqb (codes_in (all_codes words)) (code_count words)); number = 21; value = codes_in (all_codes words) }
    ∷ []

pub accepted_or_refused : (p limit : ℕ) (words : List ℕ) → GivenOrRefused (code_count words ∷ total words ∷ []) (check_of p limit words)
unfolding check_of tests
accepted_or_refused p limit words = refusals_given_or_refused (tests p limit words) (code_count words ∷ total words ∷ [])

pub cells_hold : (p limit : ℕ) (words : List ℕ) → WellFormed p limit words → too_many_cells words ≡ false
cells_hold p limit words f =
    elim (ℕ_discrete (code_count words) 0) [
      | yes e ↦ rw (eq-eqb (code_count words) 0 e) (le-ltb 0 (cell_count words) (omega (arith, f.no_cells e)))
      | no ne ↦
          rw (ne_eqb (code_count words) 0 ne)
          (le-ltb (3 * code_count words - 2) (cell_count words) (omega (arith, f.few_cells (omega arith))))
    ]

passed_well_formed : (p limit : ℕ) (words : List ℕ) → Passed (tests p limit words) → WellFormed p limit words
unfolding tests
passed_well_formed p limit words r =
    let sizes : Sized p limit words = sized_by r.1.0 r.1.1.0 r.1.1.1.0 r.1.1.1.1.0 in
    let late = r.1.1.1.1.1 in
    let starts : Starts words = starts_pass words sizes.no_cells ((none_refused (code_count words) (bad_start words)).0 late.0) in
    let multipliers = (none_refused (code_count words) (bad_block_multiplier p words)).0 late.1.0 in
    let contents = (none_refused (cell_count words) (bad_cell p words)).0 late.1.1.0 in
    let places = (none_refused (cell_count words) (misplaced p words)).0 late.1.1.1.0 in
    let squares = (none_refused (code_count words) (bad_square words)).0 late.1.1.1.1.0 in
    let pos : 0 < p = omega (arith, sizes.below) in
    record {
      three = ltb-false (length words) 3 r.0;
      few_codes = sizes.few_codes;
      few_cells = sizes.few_cells;
      no_cells = sizes.no_cells;
      in_range = (sizes.from_one, sizes.below);
      whole = sizes.whole;
      first_start = starts.first;
      rising = starts.rising;
      within = starts.within;
      block_in_range = λ j l. (multiplier_passes p words j pos).0 (multipliers j l);
      code_in_range = λ i l. ((cell_passes p words i pos).0 (contents i l)).0;
      schedule_in_range = λ i l. ((cell_passes p words i pos).0 (contents i l)).1;
      both_or_none = λ i l. ((cell_passes p words i pos).0 (contents i l)).2;
      has_cells = λ i l a. ((place_passes p words i starts (some_codes words sizes.no_cells i l)).0 (places i l) a).0;
      own = λ i l a. ((place_passes p words i starts (some_codes words sizes.no_cells i l)).0 (places i l) a).1;
      square = λ j l. (square_passes words j starts l).0 (squares j l);
      all_codes = eqb-true _ _ (not-false _ late.1.1.1.1.1.0);
    }

well_formed_passed : (p limit : ℕ) (words : List ℕ) → WellFormed p limit words → Passed (tests p limit words)
unfolding tests
well_formed_passed p limit words f =
    let n : ℕ = code_count words in
    let c : ℕ = cell_count words in
    let pos : 0 < p = omega (arith, f.in_range.1) in
    let starts : Starts words
    = record { none = f.no_cells; first = f.first_start; rising = f.rising; within = f.within } in (
      le-ltb (length words) 3 f.three,
      (
        le-ltb limit n f.few_codes,
        (
          cells_hold p limit words f,
          (
            rw (le-ltb (multiplier words) 1 f.in_range.0, le-ltb (p - 1) (multiplier words) (omega (arith, f.in_range.1))) refl,
            (
              le-ltb (length words) (total words) f.whole,
              (
                (none_refused n (bad_start words)).1 (starts_hold words starts),
                (
                  (none_refused n (bad_block_multiplier p words)).1 (λ j l. (multiplier_passes p words j pos).1 (f.block_in_range j l)),
                  (
                    (none_refused c (bad_cell p words)).1
                        (λ i l. (cell_passes p words i pos).1 (f.code_in_range i l, f.schedule_in_range i l, f.both_or_none i l)),
                    (
                      (none_refused c (misplaced p words)).1
                          (λ i l. (place_passes p words i starts (some_codes words f.no_cells i l)).1 (λ a. (f.has_cells i l a, f.own i l a))),
                      (
                        (none_refused n (bad_square words)).1 (λ j l. (square_passes words j starts l).1 (f.square j l)),
                        (
                          rw (eq-eqb (codes_in (all_codes words)) n f.all_codes) refl,
                          tt,
                        ),
                      ),
                    ),
                  ),
                ),
              ),
            ),
          ),
        ),
      ),
    )

pub check_exactly :
    (p limit : ℕ) (words : List ℕ) → (check_of p limit words ≡ given (code_count words ∷ total words ∷ [])) ↔ WellFormed p limit words
unfolding check_of tests
check_exactly p limit words =
    let values = code_count words ∷ total words ∷ [] in (
      λ e. passed_well_formed p limit words (refusals_given (tests p limit words) values values e),
      λ f. refusals_pass (tests p limit words) values (well_formed_passed p limit words f),
    )
