-- A refusal leaves all lent memory as it was: memory at exit is `filled` by the answer, and a refusal fills nothing. C sees a result by the number 0,
-- which no refusal has.
use Prim.Native.Nat.{ℕ}
use mathlib.Core.Bool.{false, true, true≢false}
use mathlib.Core.List.{List, [], ◌∷◌}
use mathlib.Core.Logic.{⊎_elim}
use mathlib.Core.Path.{◌≡◌, refl, sym, ap, ◌∙◌}
use Rattle.prelude.specs.Answers.{Answer, given, absent, unknown, refused, filled}
use Rattle.prelude.specs.Numbers.{number_of, value_of, Shown, SizeShown}
use Rattle.prelude.specs.Pairs.{among}
use Rattle.prelude.specs.declared.answers.Numbered.{Numbered}
use Rattle.prelude.specs.declared.answers.NumberedSize.{NumberedSize}
use Rattle.builder.specs.Build.{built_words}
use Rattle.demands.specs.Answered.{IsRefusal, ResultOr, FilledOrKept}
use Rattle.demands.specs.Theorems.{Keeping, Exporting}
use Rattle.demands.proofs.Answering.{answering}

module _ (new old : List ℕ) where
  kept : {answer expected : Answer} → answer ≡ expected → IsRefusal answer → filled expected new old ≡ old
  kept same (number, value, e) = ap (λ (r : Answer). filled r new old) (sym same ∙ e)

pub keeping : Keeping
unfolding built_words
keeping =
    record {
      build = λ codes schedules words answer words' b no. b.words_at_exit ∙ kept _ words b.answers no;
      pairs = λ words codes schedules answer codes' schedules' b no.
          (b.codes_at_exit ∙ kept _ codes b.answers no, b.schedules_at_exit ∙ kept _ schedules b.answers no);
      insert = λ words code schedule second answer second' b no. b.second_at_exit ∙ kept _ second b.answers no;
      remove = λ words code second answer second' b no. b.second_at_exit ∙ kept _ second b.answers no;
      read_list = λ text codes schedules answer codes' schedules' b no.
          (b.codes_at_exit ∙ kept _ codes b.answers no, b.schedules_at_exit ∙ kept _ schedules b.answers no);
      write_list = λ codes schedules text answer text' b no. b.text_at_exit ∙ kept _ text b.answers no;
      generate = λ n codes schedules answer codes' schedules' b no.
          (b.codes_at_exit ∙ kept _ codes b.answers no, b.schedules_at_exit ∙ kept _ schedules b.answers no);
    }

-- ---- what C sees

-- no number of a list is 0
no_zero : (number : ℕ) (numbers : List ℕ) → among 0 numbers ≡ false → among number numbers ≡ true → number ≡ 0 → ⊥
no_zero number numbers none there e = true≢false (sym there ∙ ap (λ (n : ℕ). among n numbers) e ∙ none)

module _
    (value : ℕ) (alone valued new old : List ℕ) (none-alone : among 0 alone ≡ false) (none-valued : among 0 valued ≡ false)
  where
    shown :
        (answer : Answer) (number_is value-is : ℕ) (old' : List ℕ) → ResultOr (value ∷ []) alone valued answer → number_is ≡ number_of answer
        → value-is ≡ value_of answer → old' ≡ filled answer new old → FilledOrKept number_is value-is value new old old'
    unfolding ResultOr
    shown (given values) number_is value-is old' is n v e =
        (λ zero. (v ∙ ap (λ (values : List ℕ). value_of (given values)) is, e), λ ne. absurd (ne n))
    shown absent number_is value-is old' is n v e = absurd is
    shown (unknown i) number_is value-is old' is n v e = absurd is
    shown (refused number with) number_is value-is old' is n v e = (
      λ zero.
          absurd
          (⊎_elim
          (λ alone-one. no_zero number alone none-alone alone-one.0 (sym n ∙ zero))
          (λ Valued-one. no_zero number valued none-valued Valued-one (sym n ∙ zero))
          is),
      λ ne. e,
    )

    -- the same by what C sees of a number and a value, or a size
    shows : {answer : Answer} {r : Numbered} (old' : List ℕ) → ResultOr (value ∷ []) alone valued answer → Shown answer r → old' ≡ filled answer new old → FilledOrKept r.number r.value value new old old'
    shows old' is s e = shown _ _ _ old' is s.number_shown s.value_shown e

    shows_size : {answer : Answer} {r : NumberedSize} (old' : List ℕ) → ResultOr (value ∷ []) alone valued answer → SizeShown answer r → old' ≡ filled answer new old → FilledOrKept r.number r.value value new old old'
    shows_size old' is s e = shown _ _ _ old' is s.number_shown s.value_shown e

pub exporting : Exporting
unfolding built_words among
exporting =
    record {
      glass_build = λ codes schedules words r words' b.
          shows _ _ _ _ words refl refl words' (answering.build codes schedules _) b.shows b.words_at_exit;
      glass_pairs = λ words codes schedules r codes' schedules' b. (
        shows _ _ _ _ codes refl refl codes' (answering.pairs words codes schedules) b.shows b.codes_at_exit,
        shows _ _ _ _ schedules refl refl schedules' (answering.pairs words codes schedules) b.shows b.schedules_at_exit,
      );
      glass_insert = λ words code schedule second r second' b.
          shows _ _ _ _ second refl refl second' (answering.insert words code schedule _) b.shows b.second_at_exit;
      glass_remove = λ words code second r second' b.
          shows _ _ _ _ second refl refl second' (answering.remove words code _) b.shows b.second_at_exit;
      glass_read_list = λ text codes schedules r codes' schedules' b. (
        shows_size _ _ _ _ codes refl refl codes' (answering.read_list text _ _) b.shows b.codes_at_exit,
        shows_size _ _ _ _ schedules refl refl schedules' (answering.read_list text _ _) b.shows b.schedules_at_exit,
      );
      glass_write_list = λ codes schedules text r text' b.
          shows_size _ _ _ _ text refl refl text' (answering.write_list codes schedules _) b.shows b.text_at_exit;
      glass_generate = λ n codes schedules r codes' schedules' b. (
        shows _ _ _ _ codes refl refl codes' (answering.generate n _ _) b.shows b.codes_at_exit,
        shows _ _ _ _ schedules refl refl schedules' (answering.generate n _ _) b.shows b.schedules_at_exit,
      );
    }
