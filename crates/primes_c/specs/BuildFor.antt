-- A build for a prime that is given (document 02, Change 6), in the layout of document 01: 76 before all that `build_of` refuses.
use Rattle.std.specs.Prelude.{ℕ, not, List, ◌≡◌, length}
use Rattle.prelude.specs.Answers.{Answer, refuse, filled}
use Rattle.prelude.specs.declared.answers.Numbered.{Numbered}
use Rattle.prelude.specs.Numbers.{Shown}
use Rattle.table.specs.Primes.{is_table_prime}
use Rattle.table.specs.TwoLevel.{table_of}
use Rattle.builder.specs.Build.{build_of}

-- the answer of a build into this many lent words
unfoldable pub build_for_of : ℕ → ℕ → List ℕ → List ℕ → ℕ → Answer
build_for_of p limit codes schedules lent = refuse (not (is_table_prime p)) 76 0 (build_of p limit codes schedules lent)

-- the lent words after it
unfoldable pub built_for_words : ℕ → ℕ → List ℕ → List ℕ → List ℕ → List ℕ
built_for_words p limit codes schedules words = filled (build_for_of p limit codes schedules (length words)) (table_of p codes schedules) words

-- what C sees of the answer, and the lent words at exit
pub record BuildForShown (p limit : ℕ) (codes schedules words : List ℕ) (r : Numbered) (words' : List ℕ) : Type 0 where
  pub shows : Shown (build_for_of p limit codes schedules (length words)) r
  pub words_at_exit : words' ≡ built_for_words p limit codes schedules words
