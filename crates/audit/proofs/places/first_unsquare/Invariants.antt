-- `audit::places::first_unsquare` meets its contract. The loop's invariant: no block below j has the wrong size.
use Rattle.prelude.proofs.First.{Below}
use Rattle.audit.specs.Check.{bad_square}
use Rattle.audit.proofs.places.first_unsquare.Given as goal

abbrev pub invariant-loop-j : goal.invariant-loop-j
invariant-loop-j l = Below (bad_square l.words) l.j
