-- `suppliers::scan::judge` meets its contract. Before the turn at `at` as many lines have ended there as are counted, none is faulty, and `at` is
-- at most the end of those that are ended. The measure is what is left up to there.
use Prim.Native.Nat.{◌-◌, ◌≤◌}
use Rattle.suppliers.proofs.Judging.{Judging}
use Rattle.suppliers.proofs.scan.judge.Given as goal

abbrev pub invariant-loop-at : goal.invariant-loop-at
invariant-loop-at l = Judging l.text l.at l.lines × (l.at ≤ l.end)

abbrev pub decreases-loop-at : goal.decreases-loop-at
decreases-loop-at l = l.end - l.at
