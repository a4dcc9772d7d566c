-- The answer of a list's tests, one after the other: the first that holds refuses.
use Prim.Native.Nat.{ℕ, ◌<◌, ◌≤◌}
use mathlib.Core.Bool.{true, false}
use mathlib.Core.List.{List}
use mathlib.Core.Path.{◌≡◌, ap, ◌∙◌}
use borrow.Author.Tests.{eq-eqb, ne_eqb, lt-ltb, le-ltb}
use lib.ListN.{length}
use Rattle.prelude.specs.Answers.{Answer, refused, first_of, some}
use Rattle.repeats.specs.Repeated.{repeated}
use Rattle.lists.specs.List.{bad_code, bad_schedule, list_or}

module _ (p limit : ℕ) (codes schedules : List ℕ) (rest : Answer) where
  abbrev n : ℕ
  n = length codes

  pub lengths_differ : (n ≡ length schedules → ⊥) → refused 1 0 ≡ list_or p limit codes schedules rest
  unfolding list_or
  lengths_differ ne = rw (ne_eqb n (length schedules) ne)

  module _ (same : n ≡ length schedules) where
    pub too_many_pairs : limit < n → refused 2 0 ≡ list_or p limit codes schedules rest
    unfolding list_or
    too_many_pairs l = rw (eq-eqb n (length schedules) same, lt-ltb limit n l)

    module _ (few : n ≤ limit) where
      pub bad_code_lem : (i : ℕ) → (some n (bad_code p codes) ≡ true) × (first_of n (bad_code p codes) ≡ i) → refused 3 i ≡ list_or p limit codes schedules rest
      unfolding list_or
      bad_code_lem i bad = rw (eq-eqb n (length schedules) same, le-ltb limit n few, bad.0, bad.1)

      module _ (good : some n (bad_code p codes) ≡ false) where
        -- the schedules are as many as the codes
        abbrev m : ℕ
        m = length schedules

        pub bad_schedule_lem : (i : ℕ) → (some m (bad_schedule schedules) ≡ true) × (first_of m (bad_schedule schedules) ≡ i) → refused 4 i ≡ list_or p limit codes schedules rest
        unfolding list_or
        bad_schedule_lem i bad = rw (eq-eqb n m same, le-ltb limit n few, good, same, bad.0, bad.1)

        module _ (scheduled : some m (bad_schedule schedules) ≡ false) where
          none_bad : some n (bad_schedule schedules) ≡ false
          none_bad = ap (λ (x : ℕ). some x (bad_schedule schedules)) same ∙ scheduled

          pub repeated_code : (i : ℕ) → (some n (repeated codes) ≡ true) × (first_of n (repeated codes) ≡ i) → refused 5 i ≡ list_or p limit codes schedules rest
          unfolding list_or
          repeated_code i again = rw (eq-eqb n m same, le-ltb limit n few, good, none_bad, again.0, again.1)

          pub none_holds : some n (repeated codes) ≡ false → rest ≡ list_or p limit codes schedules rest
          unfolding list_or
          none_holds new = rw (eq-eqb n m same, le-ltb limit n few, good, none_bad, new)
