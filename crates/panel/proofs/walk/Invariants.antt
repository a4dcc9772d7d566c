-- `panel::walk` meets its contract. The loop's invariant: no code before index i ends the walk, and what is kept decides among them.
use Rattle.panel.proofs.Walking.{Kept}
use Rattle.panel.proofs.walk.Given as goal

abbrev pub invariant-loop-i : goal.invariant-loop-i
invariant-loop-i l = Kept l.h.prime l.limit l.words l.codes l.holds l.i l.decided
