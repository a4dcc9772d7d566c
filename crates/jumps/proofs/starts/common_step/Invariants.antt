-- `jumps::starts::common_step` meets its contract. The loop's invariant is `Stepped`.
use Rattle.jumps.proofs.Beginning.{Stepped}
use Rattle.jumps.proofs.starts.common_step.Given as goal

abbrev pub invariant-loop-a : goal.invariant-loop-a
invariant-loop-a l = Stepped l.w l.ends.low l.codes l.a-index l.e
