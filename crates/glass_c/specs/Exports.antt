-- What C sees of the calls that fill lent memory: the answer, and the memory at exit.
use Rattle.std.specs.Prelude.{ℕ, List, ◌≡◌, length}
use Rattle.reader.specs.Pairs.{pairs_of, codes_read, schedules_read}
use Rattle.builder.specs.Build.{build_of, built_words}
use Rattle.editor.specs.Edit.{insert_of, inserted_words, remove_of, removed_words}
use Rattle.prelude.specs.declared.answers.Numbered.{Numbered}
use Rattle.prelude.specs.declared.answers.NumberedSize.{NumberedSize}
use Rattle.prelude.specs.Numbers.{Shown, SizeShown}
use Rattle.suppliers.specs.Lists.{read_list_of, list_codes, list_schedules, write_list_of, written_text}
use Rattle.generator.specs.TestLoad.{generate_of, loaded_codes, loaded_schedules}

pub record BuildShown (p limit : ℕ) (codes schedules words : List ℕ) (r : Numbered) (words' : List ℕ) : Type 0 where
  pub shows : Shown (build_of p limit codes schedules (length words)) r
  pub words_at_exit : words' ≡ built_words p limit codes schedules words

pub record PairsShown (p limit : ℕ) (words codes schedules : List ℕ) (r : Numbered) (codes' schedules' : List ℕ) : Type 0 where
  pub shows : Shown (pairs_of p limit words codes schedules) r
  pub codes_at_exit : codes' ≡ codes_read p limit words codes schedules
  pub schedules_at_exit : schedules' ≡ schedules_read p limit words codes schedules

pub record InsertShown (p limit : ℕ) (words : List ℕ) (code schedule : ℕ) (second : List ℕ) (r : Numbered) (second' : List ℕ) : Type 0 where
  pub shows : Shown (insert_of p limit words code schedule (length second)) r
  pub second_at_exit : second' ≡ inserted_words p limit words code schedule second

pub record RemoveShown (p limit : ℕ) (words : List ℕ) (code : ℕ) (second : List ℕ) (r : Numbered) (second' : List ℕ) : Type 0 where
  pub shows : Shown (remove_of p limit words code (length second)) r
  pub second_at_exit : second' ≡ removed_words p limit words code second

pub record ReadListShown (text codes schedules : List ℕ) (r : NumberedSize) (codes' schedules' : List ℕ) : Type 0 where
  pub shows : SizeShown (read_list_of text (length codes) (length schedules)) r
  pub codes_at_exit : codes' ≡ list_codes text codes schedules
  pub schedules_at_exit : schedules' ≡ list_schedules text codes schedules

pub record WriteListShown (limit : ℕ) (codes schedules text : List ℕ) (r : NumberedSize) (text' : List ℕ) : Type 0 where
  pub shows : SizeShown (write_list_of limit codes schedules (length text)) r
  pub text_at_exit : text' ≡ written_text limit codes schedules text

pub record GenerateShown (limit n : ℕ) (codes schedules : List ℕ) (r : Numbered) (codes' schedules' : List ℕ) : Type 0 where
  pub shows : Shown (generate_of limit n (length codes) (length schedules)) r
  pub codes_at_exit : codes' ≡ loaded_codes limit n codes schedules
  pub schedules_at_exit : schedules' ≡ loaded_schedules limit n codes schedules
