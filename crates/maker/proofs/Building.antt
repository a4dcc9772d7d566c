-- What a build leaves: a table of as many words as it answers, which fit what was lent; its bytes are then all that are written.
use Prim.Native.Nat.{ℕ, ◌*◌, ◌/◌, ◌≤◌}
use mathlib.Core.List.{List, [], ◌∷◌, ◌++◌}
use mathlib.Core.Logic.{⊎_elim}
use mathlib.Core.Path.{◌≡◌, sym, ◌∙◌}
use native.Mathlib.Omega.{arith}
use borrow.Author.Tests.{ltb-false}
use lib.Dec.{ltb}
use lib.ListN.{length, take}
use lib.Seq.{take_at, take_all}
use Rattle.prelude.specs.Answers.{Answer, given}
use Rattle.prelude.specs.Numbers.{number_of, value_of}
use Rattle.table.specs.TwoLevel.{words_needed, table_of}
use Rattle.table.proofs.Contents.{table_length}
use Rattle.prelude.proofs.Refusals.{Refusal, GivenOrRefused, refusals_given, refusals_given_or_refused, is_given}
use Rattle.lists.specs.List.{list_or}
use Rattle.lists.proofs.Answered.{refuses}
use Rattle.lists.proofs.Valid as Valid
use Rattle.builder.specs.Build.{build_of, built_words, Built}
use Rattle.builder.specs.Built.{build_error_of}
use Rattle.builder.specs.declared.build.BuildError.{BuildError}
use Rattle.builder.specs.declared.build.BuildError.TheVariants.{TooShort, Refused}
use Rattle.decimal.specs.code.Added.{Added}
use Rattle.files.specs.Bytes.{bytes_of, BytesFilled}
use Rattle.files.proofs.ByteLaws.{bytes_length}
use Rattle.lines.specs.Lines.{refused_line}
use Rattle.maker.specs.Making.{bytes_for}

-- ---- its answers

abbrev tests : ℕ → ℕ → List ℕ → List ℕ → ℕ → List Refusal
tests p limit codes schedules lent =
    Valid.tests p limit codes schedules
    ++ (record { fails = ltb lent (words_needed p codes); number = 6; value = words_needed p codes } ∷ [])

module _ (p limit : ℕ) (codes schedules : List ℕ) (lent : ℕ) where
  pub build_answers : GivenOrRefused (words_needed p codes ∷ []) (build_of p limit codes schedules lent)
  unfolding build_of list_or
  build_answers = refusals_given_or_refused (tests p limit codes schedules lent) (words_needed p codes ∷ [])

  build_fits : {values : List ℕ} → build_of p limit codes schedules lent ≡ given values → words_needed p codes ≤ lent
  unfolding build_of list_or
  build_fits {values} e =
      let passed = refusals_given (tests p limit codes schedules lent) (words_needed p codes ∷ []) values e in
      ltb-false lent (words_needed p codes) passed.1.1.1.1.1.0

-- an error is no value
pub none_built : (e : BuildError) (n : ℕ) → build_error_of e ≡ given (n ∷ []) → ⊥
none_built (TooShort total) n e = let z : ◌≡◌ {A = ℕ} 0 1 = cc in omega arith
none_built (Refused listed) n e = let r = refuses listed in let is = r.2 in let z : ◌≡◌ {A = ℕ} 0 1 = cc in omega arith

-- ---- what it leaves

-- the first words are those of the list's table, and its bytes are to be written
pub record TableHeld (p limit : ℕ) (codes schedules : List ℕ) (lent total : ℕ) (words : List ℕ) : Type 0 where
  pub held : take total words ≡ table_of p codes schedules
  pub size : length (table_of p codes schedules) ≡ total
  pub fits : total ≤ lent
  pub bytes : bytes_for p codes schedules (build_of p limit codes schedules lent) ≡ bytes_of (table_of p codes schedules)

module _
    {p limit : ℕ} {codes schedules words : List ℕ} {answer : Answer} {words' : List ℕ} (lent : ℕ) (l : length words ≡ lent)
    (b : Built p limit codes schedules words answer words') where
  answer_is : answer ≡ build_of p limit codes schedules lent
  answer_is = rw (← l) b.answers

  pub table_held : {total : ℕ} → answer ≡ given (total ∷ []) → TableHeld p limit codes schedules lent total words'
  unfolding built_words bytes_for
  table_held {total} e =
      let is : build_of p limit codes schedules lent ≡ given (total ∷ []) = sym answer_is ∙ e in
      let needed : total ∷ [] ≡ words_needed p codes ∷ [] = is_given (build_answers p limit codes schedules lent) is in
      let same : words_needed p codes ≡ total = cc in
      let size : length (table_of p codes schedules) ≡ total = table_length p codes schedules ∙ same in
      record {
        held = rw (b.words_at_exit, l, is) (take_at (table_of p codes schedules) _ total size);
        size = size;
        fits = omega (arith, build_fits p limit codes schedules lent is);
        bytes = rw is;
      }

  pub refused_line_lem :
      ((n : ℕ) → answer ≡ given (n ∷ []) → ⊥)
      → bytes_for p codes schedules (build_of p limit codes schedules lent) ≡ refused_line (number_of answer) (value_of answer)
  unfolding bytes_for
  refused_line_lem none =
      ⊎_elim
      (λ g. absurd (none _ (answer_is ∙ g)))
      (λ (number, value, g). let e = answer_is ∙ g in rw (g, e))
      (build_answers p limit codes schedules lent)

-- as many bytes as fit are all of them
pub bytes_added :
    {words old : List ℕ} {end : ℕ} {new : List ℕ} → 4 * length words ≤ length old → BytesFilled words old end new
    → Added (bytes_of words) 0 old end new
bytes_added {words} {old} {end} h f =
    let whole : take (length old / 4) words ≡ words = take_all (length old / 4) words (omega arith) in
    let place : end ≡ length (bytes_of words) = f.count ∙ rw whole in
    record {
      place = omega arith;
      fits = omega (arith, bytes_length words);
      memory = rw (f.bytes, whole, place);
    }
