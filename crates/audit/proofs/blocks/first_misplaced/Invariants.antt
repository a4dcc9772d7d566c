-- `audit::blocks::first_misplaced` meets its contract. The loop's invariant: no place below t is misplaced.
use Rattle.prelude.proofs.First.{Below}
use Rattle.audit.specs.code.Blocks.{misplaced_in}
use Rattle.audit.proofs.blocks.first_misplaced.Given as goal

abbrev pub invariant-loop-t : goal.invariant-loop-t
invariant-loop-t l = Below (misplaced_in l.h l.b l.part) l.t
