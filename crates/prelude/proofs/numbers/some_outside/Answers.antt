use mathlib.Core.Bool.{◌||◌}
use mathlib.Core.Path.{sym, ap₂, ◌∙◌}
use Rattle.prelude.proofs.Some.{some_next}
use Rattle.prelude.proofs.numbers.some_outside.Goals as goal

pub loop-x-preserved : goal.loop-x-preserved
loop-x-preserved c = ap₂ ◌||◌ c.loop-x.invariant c.outside-bad.ensures ∙ sym (some_next _ _)
