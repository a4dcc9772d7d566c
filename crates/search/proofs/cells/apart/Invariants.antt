-- `search::cells::apart` meets its contract. The loop's invariant is `Taking`: the codes from i on are tested.
use Rattle.search.proofs.Taking.{Taking}
use Rattle.search.proofs.cells.apart.Given as goal

abbrev pub invariant-loop-i : goal.invariant-loop-i
invariant-loop-i l = Taking l.h.prime l.h.multiplier l.h.places l.block l.i l.taken l.shared
