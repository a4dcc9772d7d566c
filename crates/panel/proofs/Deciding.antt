-- The code that decides a panel: the definition chooses the hold, then the number, then the code; the walk keeps the best of the codes so far. Both give
-- the one code that is described here.
use Prim.Native.Nat.{ℕ, zero, suc, ◌<◌, ◌≤◌}
use native.Mathlib.Decide.{dec_lt}
use native.Mathlib.Nat.{le-max_left, le-max_right, le_antisymm}
use native.Mathlib.Omega.{arith}
use mathlib.Core.Bool.{Bool, true, false, ◌&&◌, true≢false}
use mathlib.Core.List.{List}
use mathlib.Core.Path.{◌≡◌, refl, sym, ap, ◌∙◌}
use borrow.Author.Tests.{eqb-true, eqb-false, eq-eqb}
use lib.Dec.{eqb}
use Rattle.prelude.specs.Answers.{first_of, some}
use Rattle.prelude.proofs.First.{first_is, first_upto}
use Rattle.prelude.proofs.Some.{some_there, there_some}
use Rattle.panel.specs.Panel.{hold_of, largest_of, longest, least_longest, deciding}

-- ---- the largest of some numbers

pub largest_above : (n : ℕ) (f : ℕ → ℕ) (x : ℕ) → x < n → f x ≤ largest_of n f
unfolding largest_of
largest_above zero f x l = absurd (omega arith)
largest_above (suc n) f x l =
    elim (dec_lt x n) [
      | yes below ↦ omega (arith, largest_above n f x below, le-max_left (largest_of n f) (f n))
      | no ge ↦ let same : x ≡ n = omega arith in rw same (le-max_right (largest_of n f) (f n))
    ]

largest_none : (n : ℕ) (f : ℕ → ℕ) → n ≡ 0 → largest_of n f ≡ 0
unfolding largest_of
largest_none n f none = rw none

pub largest_reached : (n : ℕ) (f : ℕ → ℕ) → 0 < n → (x : ℕ) × (x < n) × (f x ≡ largest_of n f)
unfolding largest_of
largest_reached zero f some = absurd (omega arith)
largest_reached (suc n) f some =
    elim (dec_lt (largest_of n f) (f n)) [
      | yes l ↦ (n, omega arith, omega arith)
      | no ge ↦
          elim (dec_lt 0 n) [
            | yes more ↦ let (x, below, same) = largest_reached n f more in (x, omega arith, omega (arith, same))
            | no none ↦ (n, omega arith, omega (arith, largest_none n f (omega arith)))
          ]
    ]

-- ---- the code that decides

pub and_true : (a b : Bool) → a && b ≡ true → (a ≡ true) × (b ≡ true)
and_true true b e = (refl, e)
and_true false b e = absurd (true≢false (sym e))

module _ (holds : List ℕ) (n : ℕ) (schedule : ℕ → ℕ) where
  -- x decides: no hold is longer, no schedule with as long a hold has a smaller number, and no code before it has that schedule
  pub record Decides (x : ℕ) : Type 0 where
    pub in_panel : x < n
    pub longest_hold : (y : ℕ) → y < n → hold_of holds (schedule y) ≤ hold_of holds (schedule x)
    pub least_number : (y : ℕ) → y < n → hold_of holds (schedule y) ≡ hold_of holds (schedule x) → schedule x ≤ schedule y
    pub first_code : (y : ℕ) → y < x → schedule y ≡ schedule x → ⊥

  -- the definition's test of a schedule
  abbrev chosen : ℕ → Bool
  chosen s = some n (λ x. eqb (schedule x) s) && eqb (hold_of holds s) (longest holds n schedule)

  chosen_true : (x : ℕ) → x < n → hold_of holds (schedule x) ≡ longest holds n schedule → chosen (schedule x) ≡ true
  chosen_true x l long =
      rw (there_some n (λ y. eqb (schedule y) (schedule x)) x l (eq-eqb (schedule x) (schedule x) refl)) (eq-eqb _ _ long)

  chosen_tells : (s : ℕ) → chosen s ≡ true → (x : ℕ) × (x < n) × (schedule x ≡ s) × (hold_of holds s ≡ longest holds n schedule)
  chosen_tells s e =
      let (there, long) = and_true (some n (λ x. eqb (schedule x) s)) (eqb (hold_of holds s) (longest holds n schedule)) e in
      let (x, below, same) = some_there n (λ x. eqb (schedule x) s) there in
      (x, below, eqb-true (schedule x) s same, eqb-true (hold_of holds s) (longest holds n schedule) long)

  module _ (some-code : 0 < n) (to_999 : (x : ℕ) → x < n → schedule x ≤ 999) where
    no_longer : (y : ℕ) → y < n → hold_of holds (schedule y) ≤ longest holds n schedule
    unfolding longest
    no_longer y l = largest_above n (λ x. hold_of holds (schedule x)) y l

    -- a schedule with the longest hold is the first or after it
    first_chosen : (y : ℕ) → y < n → hold_of holds (schedule y) ≡ longest holds n schedule → (first_of 1000 chosen < 1000) × (first_of 1000 chosen ≤ schedule y)
    first_chosen y l long =
        let upto = first_upto 1000 chosen (schedule y) (omega (arith, to_999 y l)) (chosen_true y l long) in
        (omega (arith, to_999 y l), upto)

    no_less : (y : ℕ) → y < n → hold_of holds (schedule y) ≡ longest holds n schedule → least_longest holds n schedule ≤ schedule y
    unfolding least_longest
    no_less y l long = (first_chosen y l long).1

    -- the least schedule with the longest hold is one of them
    least_there :
        (x : ℕ) × (x < n) × (schedule x ≡ least_longest holds n schedule) × (hold_of holds (least_longest holds n schedule) ≡ longest holds n schedule)
    unfolding least_longest longest
    least_there =
        let (x, below, long) = largest_reached n (λ x. hold_of holds (schedule x)) some-code in
        chosen_tells (first_of 1000 chosen) ((first_is 1000 chosen).holds (first_chosen x below long).0)

    -- the first code that has it decides
    first_decides : (m : ℕ) → (x : ℕ) × (x < n) × (schedule x ≡ m) × (hold_of holds m ≡ longest holds n schedule)
        → ((y : ℕ) → y < n → hold_of holds (schedule y) ≡ longest holds n schedule → m ≤ schedule y) → Decides (first_of n (λ y. eqb (schedule y) m))
    first_decides m (x, below, same, long) least =
        let test : ℕ → Bool = λ y. eqb (schedule y) m in
        let first = first_is n test in
        let upto = first_upto n test x below (eq-eqb (schedule x) m same) in
        let has : schedule (first_of n test) ≡ m = eqb-true _ _ (first.holds (omega arith)) in
        record {
          in_panel = omega arith;
          longest_hold = λ y l. rw (has, long) (no_longer y l);
          least_number = λ y l e. rw has (least y l (e ∙ ap (hold_of holds) has ∙ long));
          first_code = λ y l e. eqb-false _ _ (first.below y l) (e ∙ has);
        }

    pub deciding_is : Decides (deciding holds n schedule)
    unfolding deciding
    deciding_is = first_decides (least_longest holds n schedule) least_there no_less

  -- no other code decides
  decides_once : {x y : ℕ} → Decides x → Decides y → schedule x ≡ schedule y → x ≤ y
  decides_once {x} {y} a b same =
      elim (dec_lt y x) [ yes l ↦ absurd (a.first_code y l (sym same)) | no ge ↦ omega arith ]

  pub decides_only : {x y : ℕ} → Decides x → Decides y → x ≡ y
  decides_only {x} {y} a b =
      let hold : hold_of holds (schedule x) ≡ hold_of holds (schedule y) =
      le_antisymm (b.longest_hold x a.in_panel) (a.longest_hold y b.in_panel) in
      let same : schedule x ≡ schedule y =
      le_antisymm (a.least_number y b.in_panel (sym hold)) (b.least_number x a.in_panel hold) in
      le_antisymm (decides_once a b same) (decides_once b a (sym same))
