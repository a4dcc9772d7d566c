-- `editor::changes::write_in` meets its contract: the listed pairs are the changed ones in another order, with the same table.
use Rattle.editor.proofs.Changed.{listed_searchable, listed_same, listed_built}
use Rattle.editor.proofs.changes.write_in.Goals as goal

pub write_valid-requires : goal.write_valid-requires
write_valid-requires g c = record { searchable = listed_searchable _ _ _ _ c.requires.searchable c.list_changed.ensures; schedules_len = listed_same _ _ _ _ c.requires.searchable c.list_changed.ensures }

pub returns : goal.returns
returns g c =
    listed_built _ _ _ _ c.requires.searchable c.list_changed.ensures c.write_valid.ensures
