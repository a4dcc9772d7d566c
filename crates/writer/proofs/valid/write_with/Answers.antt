-- `writer::valid::write_with` meets its contract: c is that of the least k, and at most 3n, so that the total is a word.
use mathlib.Core.Path.{◌∙◌}
use lib.Seq.{length-take-le}
use Rattle.writer.proofs.Totals.{least_wide, total_fits, too_short, valid_writable, valid_written, blocked_blocks, blocked_loads}
use Rattle.writer.proofs.valid.write_with.Goals as goal

pub overflow_cast-given : goal.overflow_cast-given
overflow_cast-given c =
    let least = least_wide c.blocks_multiplier-found.ensures.least_blocks c.wide.ensures.value in
    record { fits = total_fits least c.requires.searchable.0 c.requires.searchable.1.0 }

pub returns-then-words-total : goal.returns-then-words-total
returns-then-words-total c = too_short (least_wide c.blocks_multiplier-found.ensures.least_blocks c.wide.ensures.value) _ _ c.if-words-total.true

pub write_table-requires : goal.write_table-requires
write_table-requires c =
    let least = least_wide c.blocks_multiplier-found.ensures.least_blocks c.wide.ensures.value in
    let blocked = c.blocks_multiplier-found.ensures.blocked in
    record {
      writable = valid_writable least c.requires.searchable.0 c.requires.searchable.1.0 _ c.requires.searchable.1.1;
      block_of_each = blocked_blocks blocked c.requires.searchable.0.few (c.blocks_multiplier-found.auto.blocks ∙ c.requires.blocks_len.0);
      loads = blocked_loads blocked (c.blocks_multiplier-found.auto.counts ∙ c.requires.blocks_len.1);
      words_len = length-take-le _ _ c.if-words-total.false;
    }

pub returns : goal.returns
returns c =
    valid_written (least_wide c.blocks_multiplier-found.ensures.least_blocks c.wide.ensures.value) _ _ _ c.if-words-total.false c.write_table.ensures
