-- The list that an edit makes of an old table's pairs: what the code that gathers and writes it relies on and promises.
use Rattle.std.specs.Prelude.{ℕ, ◌+◌, ◌≤◌, List, [], ◌∷◌, ◌++◌, ◌≡◌, length, take, Option, Some, None}
use Rattle.prelude.specs.Pairs.{Pair, codes_of, schedules_of}
use Rattle.table.specs.Words.{total}
use Rattle.audit.specs.Check.{all_codes}
use Rattle.reader.specs.Pairs.{all_schedules, stored, pairs_in}
use Rattle.reader.specs.code.Gathering.{Gathered}
use Rattle.writer.specs.code.Valid.{ValidBuilt}
use Rattle.editor.specs.Edit.{without}
use Rattle.editor.specs.declared.changes.Change.{Change}

-- the pair of a code that has a schedule
abbrev pub pairs_with : ℕ → Option ℕ → List Pair
pairs_with code None = []
pairs_with code (Some schedule) = record { code = code; schedule = schedule } ∷ []

-- the new pair of a change, where there is one, and the pairs after it
abbrev pub new_pairs : Change → List Pair
new_pairs x = pairs_with x.code x.schedule

unfoldable pub changed : Change → List Pair → List Pair
unfolding without
changed x pairs = new_pairs x ++ without x.code pairs

-- two lists begin with the new pair, where there is one
pub record NewListed (x : Change) (n : ℕ) (codes schedules : List ℕ) : Type 0 where
  pub size : n ≡ length (new_pairs x)
  pub codes_are : take n codes ≡ codes_of (new_pairs x)
  pub schedules_are : take n schedules ≡ schedules_of (new_pairs x)

-- a change of a whole table
pub record Changing (words : List ℕ) (x : Change) : Type 0 where
  pub whole : total words ≤ length words
  pub others_are : x.others ≡ length (without x.code (pairs_in words))

-- two lists with a place for each pair after a change, and a place at least
pub record Roomy (x : Change) (codes schedules : List ℕ) : Type 0 where
  pub some : 1 ≤ length codes
  pub codes_long : length (new_pairs x) + x.others ≤ length codes
  pub same : length schedules ≡ length codes

-- two lists of the changed pairs, by rising cell
abbrev pub Listed : List ℕ → Change → List ℕ → List ℕ → Type 0
Listed words x codes schedules = Gathered (changed x (stored (all_codes words) (all_schedules words))) codes schedules

-- the total of the changed list, and the lent words at exit
abbrev pub ChangedBuilt : ℕ → List ℕ → Change → List ℕ → ℕ → List ℕ → Type 0
ChangedBuilt p words x = ValidBuilt p (codes_of (changed x (pairs_in words))) (schedules_of (changed x (pairs_in words)))
