-- `jumps::runs::stretch` meets its contract. The loop's invariant is `Swept`.
use mathlib.Core.Path.{◌≡◌}
use lib.ListN.{length}
use Rattle.jumps.proofs.Passing.{Swept}
use Rattle.jumps.proofs.runs.stretch.Given as goal

abbrev pub invariant-loop-i : goal.invariant-loop-i
invariant-loop-i l = Swept l.run l.codes l.i l.found × (length l.keys ≡ length l.codes)
