use mathlib.Core.Bool.{◌||◌}
use mathlib.Core.Path.{sym, ap₂, ◌∙◌}
use Rattle.prelude.proofs.Some.{some_next}
use Rattle.audit.proofs.places.some_unsound.Goals as goal

pub loop-t-preserved : goal.loop-t-preserved
loop-t-preserved g c = (
  c.is_unsound-found.auto.places ∙ c.loop-t.invariant.0,
  ap₂ ◌||◌ c.loop-t.invariant.1 (rw c.from.ensures at c.is_unsound-found.ensures) ∙ sym (some_next _ _),
)
