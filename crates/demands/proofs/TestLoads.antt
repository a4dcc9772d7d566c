-- Test loads: a load is a valid list, so that demands 2 and 3 hold of it.
use Prim.Native.Nat.{ℕ, ◌+◌, ◌-◌, ◌<◌, ◌≤◌}
use native.Mathlib.Decide.{dec_le}
use native.Mathlib.Omega.{arith}
use mathlib.Core.List.{List, [], ◌∷◌, ◌++◌}
use mathlib.Core.Logic.{◌⊎◌, inl, inr}
use mathlib.Core.Path.{◌≡◌, sym, ap, ◌∙◌}
use lib.ListN.{length, take}
use lib.Seq.{take-append_seam}
use Rattle.prelude.specs.Answers.{Answer, given, over}
use Rattle.prelude.specs.Tabulate.{tabulate}
use Rattle.table.specs.TwoLevel.{words_needed}
use Rattle.prelude.proofs.Refusals.{never_both}
use Rattle.prelude.proofs.Tabulate.{tabulate_length, tabulate_append}
use Rattle.lists.specs.Valid.{Valid}
use Rattle.builder.specs.Build.{Built}
use Rattle.generator.specs.TestLoad.{test_code, test_schedule, test_codes, test_schedules, LoadGenerated}
use Rattle.generator.proofs.Load.{test_codes_lem, test_schedules_from_one, test_schedules_to_999, every_code}
use Rattle.generator.proofs.Answers.{long_73, fitting_load}
use Rattle.demands.specs.Lists.{enough}
use Rattle.demands.specs.Theorems.{TestLoads, TableOfList, BuiltFrom, BeginsWithTable}
use Rattle.demands.proofs.Building as on-building

valid : (limit n : ℕ) → n ≤ limit → n ≤ 65536 → Valid 65537 limit (test_codes n) (test_schedules n)
valid limit n few most =
    let size = tabulate_length test_code n in
    record {
      parallel = tabulate_length test_schedule n ∙ sym size;
      few = omega (arith, size);
      codes_valid = test_codes_lem n most;
      schedules_from_one = λ i h. test_schedules_from_one n i (omega (arith, size));
      schedules_to_999 = λ i h. test_schedules_to_999 n i (omega (arith, size));
    }

-- the first of what a list begins with, and of a longer list of the same numbers
take_first : (f : ℕ → ℕ) (n : ℕ) (rest : List ℕ) → take n (tabulate f n ++ rest) ≡ tabulate f n
take_first f n rest =
    ap (λ (k : ℕ). take k (tabulate f n ++ rest)) (sym (tabulate_length f n)) ∙ take-append_seam (tabulate f n) rest

shorter : (f : ℕ → ℕ) (m n : ℕ) → m ≤ n → take m (tabulate f n) ≡ tabulate f m
shorter f m n h =
    let e : n ≡ m + (n - m) = omega arith in
    ap (λ (k : ℕ). take m (tabulate f k)) e ∙ ap (take m) (tabulate_append f m (n - m)) ∙ take_first f m (tabulate (λ i. f (m + i)) (n - m))

-- a load is refused, or it fits
fits_or_not : (n codes schedules : ℕ) → ((2048 < n) ⊎ ((codes < n) ⊎ (schedules < n))) ⊎ ((n ≤ 2048) × (n ≤ codes) × (n ≤ schedules))
fits_or_not n codes schedules =
    elim (dec_le n 2048) [
      | yes few ↦
          elim (dec_le n codes) [
            | yes c ↦
                elim (dec_le n schedules) [
                  | yes s ↦ inr (few, c, s)
                  | no s ↦ inl (inr (inr (omega arith)))
                ]
            | no c ↦ inl (inr (inl (omega arith)))
          ]
      | no many ↦ inl (inl (omega arith))
    ]

generates :
    (n : ℕ) (codes schedules : List ℕ) (answer : Answer) (codes' schedules' : List ℕ)
    → n ≤ 2048 → n ≤ length codes → n ≤ length schedules → LoadGenerated 2048 n codes schedules answer codes' schedules'
    → (answer ≡ given (n ∷ [])) × (codes' ≡ over (test_codes n) codes) × (schedules' ≡ over (test_schedules n) schedules)
generates n codes schedules answer codes' schedules' few c s g =
    let e = fitting_load (length codes) (length schedules) few c s in
    (g.answers ∙ e, rw e at g.codes_at_exit, rw e at g.schedules_at_exit)

-- what stands in the first places once a load is generated
pub record Loaded (n : ℕ) (codes' schedules' : List ℕ) : Type 0 where
  pub few : n ≤ 2048
  pub codes_there : take n codes' ≡ test_codes n
  pub schedules_there : take n schedules' ≡ test_schedules n

loaded :
    (n : ℕ) (codes schedules codes' schedules' : List ℕ) → LoadGenerated 2048 n codes schedules (given (n ∷ [])) codes' schedules'
    → Loaded n codes' schedules'
loaded n codes schedules codes' schedules' g =
    elim (fits_or_not n (length codes) (length schedules)) [
      | inl long ↦ never_both (long_73 (length codes) (length schedules) long) (sym g.answers)
      | inr (few, c, s) ↦
          let (answer, codes_are, schedules_are) = generates n codes schedules (given (n ∷ [])) codes' schedules' few c s g in
          record { few = few; codes_there = rw codes_are (take_first test_code n _); schedules_there = rw schedules_are (take_first test_schedule n _) }
    ]

tables : (n : ℕ) → n ≤ 2048 → TableOfList (test_codes n) (test_schedules n)
tables n few = (on-building.building).tables (test_codes n) (test_schedules n) (valid 2048 n few (omega arith))

any_load : (n : ℕ) (words : List ℕ) → n ≤ 2048 → enough n ≤ length words → BuiltFrom (test_codes n) (test_schedules n) words
any_load n words few room =
    (on-building.building).any_list (test_codes n) (test_schedules n) words (valid 2048 n few (omega arith))
    (rw (tabulate_length test_code n) room)

generated_built :
    (n : ℕ) (codes schedules codes' schedules' words : List ℕ) (answer : Answer) (words' : List ℕ)
    → LoadGenerated 2048 n codes schedules (given (n ∷ [])) codes' schedules' → enough n ≤ length words
    → Built 65537 2048 (take n codes') (take n schedules') words answer words'
    → (answer ≡ given (words_needed 65537 (test_codes n) ∷ [])) × BeginsWithTable (test_codes n) (test_schedules n) words'
generated_built n codes schedules codes' schedules' words answer words' g room b =
    let l = loaded n codes schedules codes' schedules' g in
    let built = rw (l.codes_there, l.schedules_there) at b in
    let from = any_load n words l.few room in
    (built.answers ∙ from.succeeds, rw built.words_at_exit from.table)

pub test_loads : TestLoads
test_loads =
    record {
      valid = valid;
      every_code = every_code;
      begins = λ m n h. (shorter test_code m n h, shorter test_schedule m n h);
      too_long = λ n codes schedules. (
        λ e.
            elim (fits_or_not n codes schedules) [
              | inl long ↦ long
              | inr (few, c, s) ↦ never_both e (fitting_load codes schedules few c s)
            ],
        long_73 codes schedules,
      );
      generates = generates;
      tables = tables;
      any_load = any_load;
      generated_built = generated_built;
    }
