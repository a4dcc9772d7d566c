-- The table of a valid list, into the words that are lent (document 01, "Build", 6).
use Rattle.std.specs.Prelude.{ℕ, List, [], ◌∷◌, ◌≡◌, length}
use Rattle.prelude.specs.Answers.{into_room, filled}
use Rattle.table.specs.TwoLevel.{words_needed, table_of}

-- the total, and the lent words at exit
pub record ValidBuilt (p : ℕ) (codes schedules words : List ℕ) (total : ℕ) (words' : List ℕ) : Type 0 where
  pub totals : total ≡ words_needed p codes
  pub words_at_exit : words' ≡ filled (into_room 6 (words_needed p codes) (length words)) (table_of p codes schedules) words

-- the same of a table that is known beforehand
pub record KnownBuilt (table words : List ℕ) (total : ℕ) (words' : List ℕ) : Type 0 where
  pub totals : total ≡ length table
  pub words_at_exit : words' ≡ filled (into_room 6 (length table) (length words)) table words

-- the total and the words of the empty list's table, for any prime
abbrev pub EmptyBuilt : List ℕ → ℕ → List ℕ → Type 0
EmptyBuilt words total words' = (p : ℕ) → ValidBuilt p [] [] words total words'

-- the table of one pair, the same for any prime that its code is below
abbrev pub one_table : ℕ → ℕ → List ℕ
one_table code schedule = 1 ∷ 1 ∷ 1 ∷ 0 ∷ 1 ∷ code ∷ schedule ∷ []

-- its total, and the lent words at exit
pub record OneBuilt (code schedule : ℕ) (words : List ℕ) (total : ℕ) (words' : List ℕ) : Type 0 where
  pub totals : total ≡ 7
  pub words_at_exit : words' ≡ filled (into_room 6 7 (length words)) (one_table code schedule) words
