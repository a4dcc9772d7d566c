-- `lists::range::first_outside` meets its contract: where the test holds of none, there is no first one.
use mathlib.Core.Path.{sym, ◌∙◌}
use Rattle.prelude.specs.Answers.{outside}
use Rattle.prelude.proofs.Where.{where_position, none_where}
use Rattle.lists.proofs.range.first_outside.Goals as goal

pub returns-then-not-some_outside : goal.returns-then-not-some_outside
returns-then-not-some_outside c =
    sym (where_position (outside 1 c.args.high) c.args.list.now 0 ∙ none_where _ _ (sym c.some_outside.ensures ∙ c.if-not-some_outside.true))
