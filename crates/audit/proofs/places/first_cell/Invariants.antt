-- `audit::places::first_cell` meets its contract. The loop's invariant: no code before block j is misplaced.
use Rattle.prelude.proofs.First.{Below}
use Rattle.audit.specs.Check.{misplaced}
use Rattle.audit.proofs.Partition.{edge}
use Rattle.audit.proofs.places.first_cell.Given as goal

abbrev pub invariant-loop-j : goal.invariant-loop-j
invariant-loop-j l = Below (misplaced l.h.prime l.words) (edge l.words l.j)
