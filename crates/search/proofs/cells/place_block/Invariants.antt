-- `search::cells::place_block` meets its contract. The loop's invariant is `Placing`: the codes from i on are in their cells.
use Rattle.search.specs.code.Cells.{Placing}
use Rattle.search.proofs.cells.place_block.Given as goal

abbrev pub invariant-loop-i : goal.invariant-loop-i
invariant-loop-i l = Placing l.h.prime l.h.multiplier l.h.places l.block l.i l.cells
