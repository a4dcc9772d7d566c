-- Putting one code in and taking one out, into a second buffer (document 01, "Put in, take out"), for any prime p and limit on the pairs.
use Rattle.std.specs.Prelude.{ℕ, ◌-◌, Bool, not, ◌&&◌, List, ◌∷◌, ◌≡◌, eqb, length}
use Rattle.prelude.specs.Answers.{Answer, refuse, or_refused, into_room, outside, filled}
use Rattle.table.specs.Words.{code_count}
use Rattle.table.specs.TwoLevel.{words_needed, table_of}
use Rattle.audit.specs.Check.{check_of}
use Rattle.prelude.specs.Pairs.{Pair, codes_of, schedules_of, pairs_where, among}
use Rattle.reader.specs.Pairs.{pairs_in}

-- the pairs without a code
unfoldable pub without : ℕ → List Pair → List Pair
unfolding pairs_where
without code pairs = pairs_where (λ a. not (eqb a code)) pairs

-- the pairs with a code put in, in place of its old schedule
unfoldable pub with_pair : ℕ → ℕ → List Pair → List Pair
unfolding without
with_pair code schedule pairs = record { code = code; schedule = schedule } ∷ without code pairs

-- the old table has the code
unfoldable pub present : List ℕ → ℕ → Bool
present words code = among code (codes_of (pairs_in words))

-- the answer where a changed list is built into this many lent words
unfoldable pub rebuilt : ℕ → List Pair → ℕ → Answer
rebuilt p pairs lent = into_room 54 (words_needed p (codes_of pairs)) lent

-- the table of a changed list
abbrev pub table_of_pairs : ℕ → List Pair → List ℕ
table_of_pairs p pairs = table_of p (codes_of pairs) (schedules_of pairs)

-- the answer of an insert
unfoldable pub insert_of : ℕ → ℕ → List ℕ → ℕ → ℕ → ℕ → Answer
unfolding with_pair present rebuilt
insert_of p limit words code schedule lent =
    refuse (outside 1 (p - 1) code) 51 0
    (refuse (outside 1 999 schedule) 52 0
    (or_refused (check_of p limit words)
    (refuse (not (present words code) && eqb (code_count words) limit) 53 0
    (rebuilt p (with_pair code schedule (pairs_in words)) lent))))

-- the answer of a remove
unfoldable pub remove_of : ℕ → ℕ → List ℕ → ℕ → ℕ → Answer
unfolding without present rebuilt
remove_of p limit words code lent =
    refuse (outside 1 (p - 1) code) 51 0
    (or_refused (check_of p limit words)
    (refuse (not (present words code)) 55 0
    (rebuilt p (without code (pairs_in words)) lent)))

-- the second buffer after an insert, and after a remove
abbrev pub inserted_words : ℕ → ℕ → List ℕ → ℕ → ℕ → List ℕ → List ℕ
inserted_words p limit words code schedule second =
    filled (insert_of p limit words code schedule (length second)) (table_of_pairs p (with_pair code schedule (pairs_in words))) second

abbrev pub removed_words : ℕ → ℕ → List ℕ → ℕ → List ℕ → List ℕ
removed_words p limit words code second =
    filled (remove_of p limit words code (length second)) (table_of_pairs p (without code (pairs_in words))) second

-- an insert's answer, and the second buffer at exit
pub record Inserted (p limit : ℕ) (words : List ℕ) (code schedule : ℕ) (second : List ℕ) (answer : Answer) (second' : List ℕ) : Type 0 where
  pub answers : answer ≡ insert_of p limit words code schedule (length second)
  pub second_at_exit : second' ≡ inserted_words p limit words code schedule second

-- a remove's answer, and the second buffer at exit
pub record Removed (p limit : ℕ) (words : List ℕ) (code : ℕ) (second : List ℕ) (answer : Answer) (second' : List ℕ) : Type 0 where
  pub answers : answer ≡ remove_of p limit words code (length second)
  pub second_at_exit : second' ≡ removed_words p limit words code second
