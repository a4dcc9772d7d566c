-- `audit::ranges::first_where` meets its contract, for whatever the test computes. The first loop's invariant: whether it holds below the index; the second's: it holds of none
-- below it.
use Prim.Native.Nat.{ℕ}
use mathlib.Core.Bool.{Bool}
use mathlib.Core.Path.{◌≡◌}
use Rattle.prelude.specs.Answers.{some}
use Rattle.prelude.proofs.First.{Below}
use Rattle.audit.specs.code.Ranges.{TestIs}
use Rattle.audit.proofs.ranges.first_where.Given as goal

abbrev pub invariant-loop-i : goal.invariant-loop-i
invariant-loop-i g l = (f : ℕ → Bool) → TestIs (goal.F-post g l.test) l.n f → l.found ≡ some l.i f

abbrev pub invariant-loop-i-2 : goal.invariant-loop-i-2
invariant-loop-i-2 g l = (f : ℕ → Bool) → TestIs (goal.F-post g l.test) l.n f → Below f l.i
