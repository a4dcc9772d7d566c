-- `reader::gather::gather_others` meets its contract. Invariant: the pairs of the cells before i stand in the first k places. The measure is what is
-- left of the cells.
use Prim.Native.Nat.{◌-◌}
use lib.ListN.{length}
use Rattle.reader.proofs.Gathering.{Gathering}
use Rattle.reader.proofs.gather.gather_others.Given as goal

abbrev pub invariant-loop-k : goal.invariant-loop-k
invariant-loop-k l = Gathering l.code l.cells l.held l.codes l.schedules l.i l.k

abbrev pub decreases-loop-k : goal.decreases-loop-k
decreases-loop-k l = length l.cells - l.i
