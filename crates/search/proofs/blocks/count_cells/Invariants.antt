-- `search::blocks::count_cells` meets its contract. The loop's invariant is `Counting`: the codes from i on are counted.
use mathlib.Core.Path.{◌≡◌}
use lib.ListN.{length}
use Rattle.search.proofs.Counts.{Counting}
use Rattle.search.proofs.blocks.count_cells.Given as goal

abbrev pub invariant-loop-i : goal.invariant-loop-i
invariant-loop-i l =
    Counting l.h.prime l.h.multiplier l.codes l.i l.blocks l.counts l.c
    × ((length l.blocks ≡ length l.initial.blocks) × (length l.counts ≡ length l.initial.counts))
