-- The listings to compare by: the checker computes each from the definitions.
use mathlib.Core.Path.{refl}
use Rattle.hash.specs.Hash.{hash_of}
use Rattle.prelude.specs.Answers.{first_of}
use Rattle.table.specs.Words.{block_of, cell_in, own_cell}
use Rattle.audit.specs.Check.{bad_start, bad_block_multiplier, bad_cell, misplaced, codes_in, bad_square, check_of}
use Rattle.prelude.specs.Pairs.{paired, pairs_where}
use Rattle.sorting.specs.Rising.{insert_by_code, rising}
use Rattle.reader.specs.Pairs.{stored, pairs_in}
use Rattle.files.specs.Bytes.{words_of}
use Rattle.decimal.specs.Decimal.{digits_of, decimal}
use Rattle.lines.specs.Lines.{pair_line, pair_lines, refused_line}
use Rattle.listing.specs.Listing.{head_line, table_text, file_of, text_of, listing_of}
use Rattle.listing.specs.Printed.{Printed}

pub printed : Printed
unfolding hash_of first_of block_of cell_in own_cell bad_start bad_block_multiplier bad_cell misplaced codes_in bad_square check_of paired pairs_where stored insert_by_code rising pairs_in words_of digits_of decimal pair_line pair_lines refused_line head_line table_text file_of text_of listing_of
printed = record { P5 = refl; empty_table = refl; empty_file = refl; three_bytes = refl }
