-- `jumps::starts::extremes` meets its contract. The loop's invariant is `Spanned`.
use Rattle.jumps.proofs.Beginning.{Spanned}
use Rattle.jumps.proofs.starts.extremes.Given as goal

abbrev pub invariant-loop-a : goal.invariant-loop-a
invariant-loop-a l = Spanned l.codes l.a-index l.low l.high
