-- What filling the places of a load relies on, and what it leaves.
use Rattle.std.specs.Prelude.{ℕ, ◌≤◌, List, ◌≡◌, length}
use Rattle.prelude.specs.Answers.{over}
use Rattle.generator.specs.TestLoad.{test_codes, test_schedules}

-- both arrays have places for a load of n pairs
pub record LoadFits (n : ℕ) (codes schedules : List ℕ) : Type 0 where
  pub codes_room : n ≤ length codes
  pub schedules_room : n ≤ length schedules

-- the first places of both arrays hold the load, and the later ones are kept
pub record LoadFilled (n : ℕ) (codes schedules codes' schedules' : List ℕ) : Type 0 where
  pub codes_at_exit : codes' ≡ over (test_codes n) codes
  pub schedules_at_exit : schedules' ≡ over (test_schedules n) schedules
