-- What the parts of putting in and taking out rely on and promise.
use Rattle.std.specs.Prelude.{ℕ, ◌<◌, ◌≤◌, not, ◌&&◌, List, ◌≡◌, eqb, length}
use Rattle.prelude.specs.Answers.{Answer, refuse, filled}
use Rattle.prelude.specs.Pairs.{Pair}
use Rattle.table.specs.Words.{code_count}
use Rattle.reader.specs.Pairs.{pairs_in}
use Rattle.editor.specs.Edit.{without, with_pair, present, rebuilt, table_of_pairs}

-- an answer is the expected one, and the second buffer is filled by it
pub record Outcome (expected : Answer) (table second : List ℕ) (answer : Answer) (second' : List ℕ) : Type 0 where
  pub answers : answer ≡ expected
  pub second_at_exit : second' ≡ filled expected table second

-- from 54 on, for the pairs of a changed list
abbrev pub Rebuilding : ℕ → List Pair → List ℕ → Answer → List ℕ → Type 0
Rebuilding p pairs second = Outcome (rebuilt p pairs (length second)) (table_of_pairs p pairs) second

-- a code and a schedule that neither 51 nor 52 refuses
pub record InRange (p code schedule : ℕ) : Type 0 where
  pub code_from_one : 1 ≤ code
  pub code_below : code < p
  pub schedule_from_one : 1 ≤ schedule
  pub schedule_to_999 : schedule ≤ 999

-- from 53 on, for an accepted table
unfoldable pub from_full : ℕ → ℕ → List ℕ → ℕ → ℕ → ℕ → Answer
unfolding with_pair present rebuilt
from_full p limit words code schedule lent =
    refuse (not (present words code) && eqb (code_count words) limit) 53 0 (rebuilt p (with_pair code schedule (pairs_in words)) lent)

abbrev pub PutIn : ℕ → ℕ → List ℕ → ℕ → ℕ → List ℕ → Answer → List ℕ → Type 0
PutIn p limit words code schedule second =
    Outcome (from_full p limit words code schedule (length second)) (table_of_pairs p (with_pair code schedule (pairs_in words))) second

-- from 55 on, for an accepted table
unfoldable pub from_there : ℕ → List ℕ → ℕ → ℕ → Answer
unfolding without present rebuilt
from_there p words code lent = refuse (not (present words code)) 55 0 (rebuilt p (without code (pairs_in words)) lent)

abbrev pub TakenOut : ℕ → List ℕ → ℕ → List ℕ → Answer → List ℕ → Type 0
TakenOut p words code second =
    Outcome (from_there p words code (length second)) (table_of_pairs p (without code (pairs_in words))) second
