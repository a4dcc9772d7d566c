-- What document 02, Change 2, gives of a test load. Statements only.
use Rattle.std.specs.Prelude.{[], ◌∷◌, ◌≡◌}
use Rattle.generator.specs.TestLoad.{test_codes, test_schedule, test_schedules}

pub record Loads : Type 0 where
  pub first_codes : test_codes 4 ≡ 75 ∷ 5625 ∷ 28653 ∷ 51791 ∷ []
  pub first_schedules : test_schedules 4 ≡ 1 ∷ 2 ∷ 3 ∷ 4 ∷ []
  -- the schedules begin again after 999
  pub last_schedule : test_schedule 998 ≡ 999
  pub first_again : test_schedule 999 ≡ 1
