-- `audit::ranges::bad_start` meets its contract: of the two tests that depend on j one is false.
use Prim.Native.Nat.{ℕ, zero, suc, ◌+◌, ◌-◌}
use mathlib.Core.Bool.{Bool, not, cond, or-false, ◌&&◌, ◌||◌}
use mathlib.Core.List.{List}
use mathlib.Core.Path.{◌≡◌, ap}
use native.Mathlib.Omega.{arith}
use borrow.Author.Tests.{ne_eqb}
use lib.Dec.{eqb, ltb}
use lib.ListN.{get_or}
use Rattle.table.specs.Words.{block_start}
use Rattle.audit.specs.Check.{bad_start}
use Rattle.audit.proofs.ranges.bad_start.Goals as goal

one_of_two :
    (words : List ℕ) (start j : ℕ)
    → (eqb j 0 && not (eqb start 0)) || (not (eqb j 0) && ltb start (get_or words (2 + j) 0))
    ≡ cond (eqb j 0) (not (eqb start 0)) (ltb start (block_start words (j - 1)))
one_of_two words start zero = or-false (not (eqb start 0))
one_of_two words start (suc j) =
    let same : 2 + suc j ≡ 3 + (suc j - 1) = omega arith in
    rw (ne_eqb (suc j) 0 (λ e. omega arith), same)

pub returns : goal.returns
unfolding bad_start
returns c =
    rw (← c.block_start-start.ensures)
    (ap (λ (b : Bool). b || ltb (get_or c.args.words.now 1 0) c.block_start-start.result) (one_of_two c.args.words.now c.block_start-start.result c.args.j))
