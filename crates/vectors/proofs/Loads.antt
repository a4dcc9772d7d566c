-- The first of a test load, computed.
use mathlib.Core.Path.{refl}
use Rattle.prelude.specs.Tabulate.{tabulate}
use Rattle.generator.specs.TestLoad.{test_code, test_schedule}
use Rattle.vectors.specs.Loads.{Loads}

pub loads : Loads
unfolding tabulate test_code test_schedule
loads = record { first_codes = refl; first_schedules = refl; last_schedule = refl; first_again = refl }
