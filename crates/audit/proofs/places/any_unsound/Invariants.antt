-- `audit::places::any_unsound` meets its contract. The loop's invariant: whether a block before the run is unsound.
use Prim.Native.Nat.{◌-◌, ◌≤◌}
use mathlib.Core.Path.{◌≡◌}
use Rattle.prelude.specs.Answers.{some}
use Rattle.table.specs.Words.{code_count}
use Rattle.audit.specs.code.Places.{unsound}
use Rattle.audit.proofs.places.any_unsound.Given as goal

abbrev pub invariant-loop-from : goal.invariant-loop-from
invariant-loop-from l = (l.from ≤ code_count l.words) × (l.found ≡ some l.from (unsound l.h.prime l.words))

abbrev pub decreases-loop-from : goal.decreases-loop-from
decreases-loop-from l = code_count l.words - l.from
