-- `prelude::numbers::some_outside` meets its contract. Invariant: whether the test holds of some number so far.
use mathlib.Core.Path.{◌≡◌}
use lib.ListN.{get_or}
use Rattle.prelude.specs.Answers.{outside, some}
use Rattle.prelude.proofs.numbers.some_outside.Given as goal

abbrev pub invariant-loop-x : goal.invariant-loop-x
invariant-loop-x l = l.bad ≡ some l.x-index (λ i. outside l.low l.high (get_or l.list i 0))
