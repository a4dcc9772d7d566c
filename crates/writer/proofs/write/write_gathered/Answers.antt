-- `writer::write::write_gathered` meets its contract: with the front written no pair is gathered, and then all are.
use mathlib.Core.Path.{sym, ◌∙◌}
use native.Mathlib.Omega.{arith}
use Rattle.writer.proofs.Gathering.{front_cells, gather_begin}
use Rattle.writer.proofs.write.write_gathered.Goals as goal

pub write_front-requires : goal.write_front-requires
write_front-requires c = record { loads_len = (c.requires.loads.each ∙ sym c.requires.writable.codes_are, (omega (arith, c.requires.writable.codes_are, c.requires.writable.searchable.few), omega (arith, c.requires.writable.few_cells, c.requires.writable.searchable.few))); codes_value = front_cells c.requires.writable c.requires.loads; words_len = c.requires.words_len }

pub gather-requires : goal.gather-requires
gather-requires c = record { writable = c.requires.writable; block_of_each = c.requires.block_of_each; words_value = c.write_front.ensures ∙ gather_begin c.requires.writable c.requires.loads }
