-- `jumps::starts::gcd` meets its contract. The loop's invariant: what divides x and y divides a and b. The measure is y.
use Rattle.jumps.proofs.Beginning.{Euclid}
use Rattle.jumps.proofs.starts.gcd.Given as goal

abbrev pub invariant-loop-y : goal.invariant-loop-y
invariant-loop-y l = Euclid l.a l.b l.x l.y

abbrev pub decreases-loop-y : goal.decreases-loop-y
decreases-loop-y l = l.y
