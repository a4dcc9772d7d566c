-- `audit::blocks::test_one` meets its contract.
use mathlib.Core.Bool.{Bool, ◌&&◌}
use mathlib.Core.Path.{ap, ◌∙◌}
use native.Mathlib.Omega.{arith}
use lib.Dec.{eqb}
use lib.ListN.{get_or}
use Rattle.audit.specs.code.Blocks.{holds}
use Rattle.audit.proofs.Counting.{byte_not}
use Rattle.audit.proofs.Occupied.{one_tested}
use Rattle.audit.proofs.blocks.test_one.Goals as goal

pub returns : goal.returns
returns c =
    one_tested c.args.h c.args.b c.args.part.now _ c.requires.1 (omega (arith, c.requires.0.cells_are, c.requires.1))
    (ap (λ (x : Bool). holds c.args.part.now 0 && x) c.elsewhere.ensures)
    (c.from.ensures ∙ byte_not (eqb (get_or c.args.part.now 0 0) 0))
