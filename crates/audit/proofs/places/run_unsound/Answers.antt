-- `audit::places::run_unsound` meets its contract: what is told of the listed blocks is told of the run.
use Prim.Native.Nat.{◌-◌}
use mathlib.Core.Bool.{◌||◌}
use mathlib.Core.Path.{ap₂, ◌∙◌}
use Rattle.audit.proofs.Sound.{in_run, one_each, run_told}
use Rattle.audit.proofs.places.run_unsound.Goals as goal

pub some_unsound-requires-clause-in_run : goal.some_unsound-requires-clause-in_run
some_unsound-requires-clause-in_run c = in_run _ c.list_blocks.ensures.ones_are c.requires.from_le_to.1.1

pub some_unsound-requires-clause-one_each : goal.some_unsound-requires-clause-one_each
some_unsound-requires-clause-one_each c = λ _. one_each (c.args.to - c.args.from) c.list_blocks.ensures.ones_are

pub some_unsound-requires-2-clause-in_run : goal.some_unsound-requires-2-clause-in_run
some_unsound-requires-2-clause-in_run c = in_run _ c.list_blocks.ensures.more_are c.requires.from_le_to.1.1

pub returns : goal.returns
returns c =
    ap₂ ◌||◌ c.some_unsound.ensures c.some_unsound-2.ensures
    ∙ run_told c.args.h.prime c.args.words.now c.args.from (c.args.to - c.args.from) _ _ c.list_blocks.ensures.ones_are c.list_blocks.ensures.more_are
