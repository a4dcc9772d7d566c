-- The outcome of a build: a refusal of the list keeps the words, and a valid list is built as such.
use Prim.Native.Nat.{ℕ, ◌<◌, ◌≤◌}
use mathlib.Core.List.{List, [], ◌∷◌}
use mathlib.Core.Path.{◌≡◌, refl, sym, ap, ◌∙◌}
use borrow.Author.Tests.{lt-ltb, le-ltb}
use lib.ListN.{length}
use Rattle.prelude.specs.Answers.{Answer, given, refused, or_refused, filled, into_room}
use Rattle.table.specs.TwoLevel.{table_of, words_needed}
use Rattle.lists.specs.List.{list_or}
use Rattle.lists.specs.Valid.{Valid}
use Rattle.lists.proofs.Valid.{list_first, valid_passes}
use Rattle.builder.specs.Build.{build_of, built_words, Built}
use Rattle.writer.specs.code.Valid.{ValidBuilt}

-- what a build answers decides what it leaves
built_by :
    (p limit : ℕ) (codes schedules words : List ℕ) (answer : Answer) {words' : List ℕ} → build_of p limit codes schedules (length words) ≡ answer
    → words' ≡ filled answer (table_of p codes schedules) words → Built p limit codes schedules words answer words'
unfolding built_words
built_by p limit codes schedules words answer e kept =
    record {
      answers = sym e;
      words_at_exit = kept ∙ sym (ap (λ (r : Answer). filled r (table_of p codes schedules) words) e);
    }

pub refused_built :
    (p limit : ℕ) (codes schedules words : List ℕ) (number value : ℕ) → list_or p limit codes schedules (given []) ≡ refused number value
    → Built p limit codes schedules words (refused number value) words
unfolding build_of
refused_built p limit codes schedules words number value e =
    built_by p limit codes schedules words (refused number value)
    (list_first p limit codes schedules _ ∙ ap (λ (r : Answer). or_refused r (into_room 6 (words_needed p codes) (length words))) e)
    refl

module _
    {p limit : ℕ} {codes schedules words : List ℕ} (v : Valid p limit codes schedules) {total : ℕ} {words' : List ℕ}
    (b : ValidBuilt p codes schedules words total words')
  where
    valid_built : (answer : Answer) → into_room 6 (words_needed p codes) (length words) ≡ answer → Built p limit codes schedules words answer words'
    unfolding build_of
    valid_built answer e =
        built_by p limit codes schedules words answer (valid_passes v _ ∙ e)
        (b.words_at_exit ∙ ap (λ (r : Answer). filled r (table_of p codes schedules) words) e)

    pub too_short : length words < total → Built p limit codes schedules words (refused 6 total) words'
    too_short l = valid_built (refused 6 total) (rw (← b.totals, lt-ltb (length words) total l))

    pub long_enough : total ≤ length words → Built p limit codes schedules words (given (total ∷ [])) words'
    long_enough l = valid_built (given (total ∷ [])) (rw (← b.totals, le-ltb (length words) total l))
