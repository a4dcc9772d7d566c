-- `editor::changes::count_others` meets its contract: each pair of a table stands in a cell.
use mathlib.Core.Path.{◌∙◌}
use Rattle.editor.proofs.Changed.{counted}
use Rattle.editor.proofs.changes.count_others.Goals as goal

pub returns : goal.returns
returns c =
    c.wide-3.ensures.value
    ∙ c.count_cells.ensures
    ∙ counted c.args.words.now _ _ c.wide.ensures.value c.wide-2.ensures.value c.args.code c.requires
