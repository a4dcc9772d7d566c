-- `editor::changes::write_alone` meets its contract: the new pair, or the one pair that is listed, is the changed list.
use native.Mathlib.Omega.{arith}
use mathlib.Core.Path.{◌∙◌}
use Rattle.editor.proofs.Changed.{listed_long, listed_same, alone_built, new_alone_built}
use Rattle.editor.proofs.changes.write_alone.Goals as goal

pub returns-in-Some : goal.returns-in-Some
returns-in-Some c = new_alone_built c.args.words.now c.args.change c.requires.searchable c.requires.changing c.in-Some.is c.requires.alone c.write_one.ensures

pub bounds-codes-0 : goal.bounds-codes-0
bounds-codes-0 c = omega (arith, listed_long c.requires.changing c.list_changed.ensures, c.requires.alone)

pub bounds-schedules-0 : goal.bounds-schedules-0
bounds-schedules-0 c =
    omega
    (arith, listed_long c.requires.changing c.list_changed.ensures, listed_same _ _ _ _ c.requires.searchable c.list_changed.ensures, c.requires.alone)

pub returns : goal.returns
returns c =
    alone_built c.args.words.now c.args.change _ _ c.requires.searchable c.list_changed.ensures (listed_long c.requires.changing c.list_changed.ensures ∙ c.requires.alone) c.write_one-2.ensures
