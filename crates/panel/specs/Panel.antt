-- The schedule of a panel, a batch of codes fired together (document 01, "Panel"): the one with the longest hold, and the cell of its first code
-- (document 02, Changes 4 and 5).
use Rattle.std.specs.Prelude.{ℕ, zero, suc, max, ◌-◌, Bool, true, cond, not, ◌&&◌, ◌||◌, List, eqb, ltb, length, get_or}
use Rattle.prelude.specs.Answers.{Answer, given, absent, unknown, refused, refuse, first_of, some}
use Rattle.prelude.specs.Numbers.{found_value_of}
use Rattle.lookup.specs.Lookup.{lookup_of}

-- the hold of a schedule, in minutes, by the holds of schedules 1 to 999; 0 for one not in use
abbrev pub hold_of : List ℕ → ℕ → ℕ
hold_of holds s = get_or holds (s - 1) 0

-- 74: the holds are not 999, or one is above 10,080
unfoldable pub bad_holds : List ℕ → Bool
bad_holds holds = not (eqb (length holds) 999) || some (length holds) (λ i. ltb 10080 (get_or holds i 0))

-- a code with this lookup's answer ends a panel: it is absent or refused, or its schedule is not in use
abbrev pub ends : List ℕ → Answer → Bool
ends holds (given values) = eqb (hold_of holds (get_or values 0 0)) 0
ends holds absent = true
ends holds (unknown i) = true
ends holds (refused number value) = true

-- and what the panel then answers, with the code's index i
abbrev pub ended_of : Answer → ℕ → Answer
ended_of (given values) i = refused 75 i
ended_of absent i = unknown i
ended_of (unknown j) i = unknown i
ended_of (refused number value) i = refused number i

-- the largest of f 0 to f (n - 1); 0 where there is none
unfoldable pub largest_of : ℕ → (ℕ → ℕ) → ℕ
largest_of zero f = 0
largest_of (suc n) f = max (largest_of n f) (f n)

-- which of n codes decides, by the schedule that is found for each, 1 to 999
module _ (holds : List ℕ) (n : ℕ) (schedule : ℕ → ℕ) where
  -- the longest hold
  unfoldable pub longest : ℕ
  longest = largest_of n (λ x. hold_of holds (schedule x))

  -- the least number of a schedule that is found and has that hold
  unfoldable pub least_longest : ℕ
  least_longest = first_of 1000 (λ s. some n (λ x. eqb (schedule x) s) && eqb (hold_of holds s) longest)

  -- the first code with that schedule
  unfoldable pub deciding : ℕ
  deciding = first_of n (λ x. eqb (schedule x) least_longest)

-- the codes looked up in their order: the first that ends it, otherwise the answer of the code that decides
unfoldable pub walk_of : ℕ → ℕ → List ℕ → List ℕ → List ℕ → Answer
walk_of p limit words holds codes =
    let n = length codes in
    let answer : ℕ → Answer = λ x. lookup_of p limit words (get_or codes x 0) in
    let ended = first_of n (λ x. ends holds (answer x)) in
    cond (ltb ended n) (ended_of (answer ended) ended) (answer (deciding holds n (λ x. found_value_of (answer x))))

-- the answer of a panel
unfoldable pub panel_of : ℕ → ℕ → List ℕ → List ℕ → List ℕ → Answer
panel_of p limit words holds codes =
    refuse (eqb (length codes) 0) 35 0
    (refuse (ltb 64 (length codes)) 36 0
    (refuse (bad_holds holds) 74 0
    (walk_of p limit words holds codes)))
