-- `editor::changes::write_changed` meets its contract: the rooms have a place for each pair of the changed list.
use native.Mathlib.Omega.{arith}
use Rattle.reader.specs.Pairs.{pairs_in}
use Rattle.writer.proofs.Totals.{empty_built}
use Rattle.editor.specs.code.Changes.{changed}
use Rattle.editor.proofs.Reordered.{same_long}
use Rattle.editor.proofs.Changed.{changed_long, new_count}
use Rattle.editor.proofs.changes.write_changed.Goals as goal

pub overflow_add-pairs : goal.overflow_add-pairs
overflow_add-pairs c =
    record { fits = omega (arith, new_count c.args.change c.from.ensures c.is_some.ensures, changed_long c.requires.changing, c.requires.searchable.few) }

pub returns-then-pairs-eq0 : goal.returns-then-pairs-eq0
returns-then-pairs-eq0 c =
    empty_built (omega (arith, changed_long c.requires.changing, new_count c.args.change c.from.ensures c.is_some.ensures, c.if-pairs-eq0.true)) (same_long (changed c.args.change (pairs_in c.args.words.now))) c.write_empty.ensures

pub write_alone-requires : goal.write_alone-requires
write_alone-requires c =
    record { searchable = c.requires.searchable; changing = c.requires.changing; alone = omega (arith, new_count c.args.change c.from.ensures c.is_some.ensures, c.if-pairs-eq1.true) }

pub write_in-requires : goal.write_in-requires
write_in-requires c =
    record { searchable = c.requires.searchable; changing = c.requires.changing; fits = (omega (arith, new_count c.args.change c.from.ensures c.is_some.ensures, c.if-pairs-le-FEW.true), (omega arith, omega arith)) }

pub write_in-requires-2 : goal.write_in-requires-2
write_in-requires-2 c =
    record { searchable = c.requires.searchable; changing = c.requires.changing; fits = (omega (arith, changed_long c.requires.changing, c.requires.searchable.few), (omega arith, omega arith)) }
