-- `jumps::starts::quotients` meets its contract. The loop's invariant: b quotients crowd the codes, and are no more than those. The measure is what is left.
use Prim.Native.Nat.{◌+◌, ◌-◌, ◌≤◌}
use Rattle.jumps.specs.code.Starts.{Quotients}
use Rattle.jumps.proofs.starts.quotients.Given as goal

abbrev pub invariant-loop-b : goal.invariant-loop-b
invariant-loop-b l = (l.b ≤ l.n + 1) × Quotients l.n l.most l.remainders l.b

abbrev pub decreases-loop-b : goal.decreases-loop-b
decreases-loop-b l = l.n + 1 - l.b
