-- `compare_lookups::expand` gives no more than there are places. The invariant: the places filled are among them.
use Prim.Native.Nat.{◌≤◌}
use lib.ListN.{length}
use Rattle.compare_lookups.proofs.expand.Given as goal

abbrev pub invariant-loop-run : goal.invariant-loop-run
invariant-loop-run l = l.at ≤ length l.holds
