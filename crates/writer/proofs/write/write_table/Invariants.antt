-- `writer::write::write_table` meets its contract. Invariant: the listed blocks from there on are as they were gathered, all others are the table's.
use mathlib.Core.Path.{◌≡◌}
use lib.ListN.{length, drop}
use Rattle.prelude.specs.Limits.{few}
use Rattle.prelude.specs.Pairs.{among}
use Rattle.writer.proofs.Sharing.{table_but}
use Rattle.writer.proofs.write.write_table.Given as goal

abbrev pub invariant-loop-j : goal.invariant-loop-j
invariant-loop-j l =
    (l.words ≡ table_but l.shape l.codes l.schedules (λ j. among j (drop l.j-index l.j-items)))
    × ((length l.words ≡ length l.initial.words) × ((length l.own ≡ few) × (length l.places ≡ few)))
