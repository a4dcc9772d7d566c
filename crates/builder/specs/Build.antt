-- Building a table from a list (document 01, "Build"), for any prime p and limit on the pairs.
use Rattle.std.specs.Prelude.{ℕ, List, ◌≡◌, length}
use Rattle.prelude.specs.Answers.{Answer, into_room, filled}
use Rattle.table.specs.TwoLevel.{words_needed, table_of}
use Rattle.lists.specs.List.{list_or}

-- the answer of a build into this many lent words
unfoldable pub build_of : ℕ → ℕ → List ℕ → List ℕ → ℕ → Answer
unfolding list_or
build_of p limit codes schedules lent =
    list_or p limit codes schedules
    (into_room 6 (words_needed p codes) lent)

-- the lent words after a build
unfoldable pub built_words : ℕ → ℕ → List ℕ → List ℕ → List ℕ → List ℕ
unfolding build_of
built_words p limit codes schedules words =
    filled (build_of p limit codes schedules (length words)) (table_of p codes schedules) words

-- a build's answer, and the lent words at exit
pub record Built (p limit : ℕ) (codes schedules words : List ℕ) (answer : Answer) (words' : List ℕ) : Type 0 where
  pub answers : answer ≡ build_of p limit codes schedules (length words)
  pub words_at_exit : words' ≡ built_words p limit codes schedules words
