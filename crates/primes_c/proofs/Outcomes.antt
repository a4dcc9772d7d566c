-- The outcome of a build for a given prime: 76 keeps the words, and one of the three is built with as by `build_for`.
use Prim.Native.Nat.{ℕ}
use mathlib.Core.Bool.{Bool, true, false, not}
use mathlib.Core.List.{List}
use mathlib.Core.Path.{◌≡◌, sym, ap, ◌∙◌}
use lib.ListN.{length}
use Rattle.prelude.specs.Answers.{Answer, refused, refuse, filled}
use Rattle.prelude.specs.declared.answers.Numbered.{Numbered}
use Rattle.prelude.specs.Numbers.{Shown}
use Rattle.table.specs.Primes.{is_table_prime}
use Rattle.table.specs.TwoLevel.{table_of}
use Rattle.prelude.proofs.Laws.{shown}
use Rattle.builder.specs.Build.{Built, build_of, built_words}
use Rattle.primes_c.specs.BuildFor.{build_for_of, built_for_words, BuildForShown}

module _ (p limit : ℕ) (codes schedules words : List ℕ) where
  -- what the test of the prime says decides the answer
  answered : (b : Bool) → is_table_prime p ≡ b → build_for_of p limit codes schedules (length words) ≡ refuse (not b) 76 0 (build_of p limit codes schedules (length words))
  unfolding build_for_of
  answered b e = ap (λ (x : Bool). refuse (not x) 76 0 (build_of p limit codes schedules (length words))) e

  left : (answer : Answer) → build_for_of p limit codes schedules (length words) ≡ answer → filled answer (table_of p codes schedules) words ≡ built_for_words p limit codes schedules words
  unfolding built_for_words
  left answer e = sym (ap (λ (r : Answer). filled r (table_of p codes schedules) words) e)

  pub other_prime : is_table_prime p ≡ false → BuildForShown p limit codes schedules words (record { number = 76; value = 0 }) words
  other_prime e = record { shows = rw (answered false e) (shown (refused 76 0)); words_at_exit = left (refused 76 0) (answered false e) }

  pub one_of_three :
      {answer : Answer} {words' : List ℕ} {r : Numbered} → is_table_prime p ≡ true → Built p limit codes schedules words answer words' → Shown answer r
      → BuildForShown p limit codes schedules words r words'
  unfolding built_words
  one_of_three e b s =
      record {
        shows = rw (answered true e) (rw b.answers at s);
        words_at_exit = b.words_at_exit ∙ left _ (answered true e);
      }
