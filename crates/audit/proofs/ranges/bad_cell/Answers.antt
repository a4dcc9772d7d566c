-- `audit::ranges::bad_cell` meets its contract: its tests are the definition's.
use mathlib.Core.Bool.{or_assoc}
use mathlib.Core.Path.{refl}
use Rattle.audit.specs.Check.{bad_cell}
use Rattle.audit.proofs.ranges.bad_cell.Goals as goal

pub returns : goal.returns
unfolding bad_cell
returns c = rw (or_assoc, ← c.cell_code-code.ensures, ← c.cell_schedule-schedule.ensures) refl
