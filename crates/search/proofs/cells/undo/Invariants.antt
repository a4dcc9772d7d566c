-- `search::cells::undo` meets its contract. The loop's invariant is `Placing`: the codes from there on are in their cells.
use Rattle.search.specs.code.Cells.{Placing}
use Rattle.search.proofs.cells.undo.Given as goal

abbrev pub invariant-loop-a : goal.invariant-loop-a
invariant-loop-a l = Placing l.h.prime l.h.multiplier l.h.places l.codes l.a-index l.cells
