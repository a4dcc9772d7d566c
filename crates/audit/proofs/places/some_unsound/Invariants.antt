-- `audit::places::some_unsound` meets its contract. The loop's invariant: whether one of the listed blocks so far is unsound.
use Prim.Native.Nat.{◌+◌}
use mathlib.Core.Path.{◌≡◌}
use lib.ListN.{length, get_or}
use Rattle.prelude.specs.Answers.{some}
use Rattle.audit.specs.code.Places.{unsound}
use Rattle.audit.proofs.places.some_unsound.Given as goal

abbrev pub invariant-loop-t : goal.invariant-loop-t
invariant-loop-t g l =
    (length l.places ≡ 81) × (l.found ≡ some l.t-index (λ x. unsound l.h.prime l.words (l.from + get_or l.list x 0)))
