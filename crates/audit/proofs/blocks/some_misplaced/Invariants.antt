-- `audit::blocks::some_misplaced` meets its contract. The loop's invariant: whether one of the listed places so far is misplaced.
use mathlib.Core.Path.{◌≡◌}
use lib.ListN.{get_or}
use Rattle.prelude.specs.Answers.{some}
use Rattle.audit.specs.code.Blocks.{not_own}
use Rattle.audit.proofs.blocks.some_misplaced.Given as goal

abbrev pub invariant-loop-place : goal.invariant-loop-place
invariant-loop-place l = l.found ≡ some l.place-index (λ x. not_own l.h l.b (get_or l.list x 0) (get_or l.part (get_or l.list x 0) 0))
