-- The bytes that are made of a text: by its length, by what reading it answers, and by the build of its pairs.
use Prim.Native.Nat.{ℕ, ◌<◌, ◌≤◌}
use mathlib.Core.List.{List, [], ◌∷◌, ◌++◌}
use mathlib.Core.Logic.{inr, ⊎_elim}
use mathlib.Core.Path.{◌≡◌, sym, ap, ◌∙◌}
use native.Mathlib.Decide.{dec_le}
use native.Mathlib.Nat.{zero-add}
use native.Mathlib.Omega.{arith}
use borrow.Author.Tests.{le-ltb, lt-ltb}
use lib.ListN.{length, take, drop}
use lib.Seq.{length-take-le}
use Rattle.prelude.specs.Answers.{Answer, given, refused}
use Rattle.prelude.specs.Pairs.{codes_of, schedules_of}
use Rattle.table.specs.TwoLevel.{words_needed, table_of}
use Rattle.prelude.specs.Numbers.{number_of, value_of}
use Rattle.prelude.proofs.Refusals.{GivenOrRefused}
use Rattle.decimal.specs.code.Added.{Added}
use Rattle.decimal.proofs.Added.{kept}
use Rattle.lines.specs.Lines.{refused_line}
use Rattle.files.specs.Bytes.{bytes_of}
use Rattle.suppliers.specs.Text.{pairs_of_text}
use Rattle.suppliers.specs.Lists.{read_list_of}
use Rattle.builder.specs.Build.{build_of}
use Rattle.maker.specs.Making.{make_of, bytes_for, made_of, TableMade}
use Rattle.maker.proofs.Reading.{PairsHeld, read_answers}
use Rattle.maker.proofs.Building.{build_answers}

-- ---- by the answer

pub made_table :
    (p limit : ℕ) (text : List ℕ) (total : ℕ) → make_of p limit text ≡ given (total ∷ [])
    → made_of p limit text ≡ bytes_of (table_of p (codes_of (pairs_of_text text)) (schedules_of (pairs_of_text text)))
unfolding made_of bytes_for
made_table p limit text total e = rw e

pub made_refused :
    (p limit : ℕ) (text : List ℕ) (number value : ℕ) → make_of p limit text ≡ refused number value → made_of p limit text ≡ refused_line number value
unfolding made_of bytes_for
made_refused p limit text number value e = rw e

-- ---- which answers there are

module _ (p limit : ℕ) (text : List ℕ) where
  pub too_long : 65536 < length text → make_of p limit text ≡ refused 61 0
  unfolding make_of
  too_long h = rw (lt-ltb 65536 (length text) h)

  module _ (h : length text ≤ 65536) where
    pub not_read : {number value : ℕ} → read_list_of text limit limit ≡ refused number value → make_of p limit text ≡ refused number value
    unfolding make_of
    not_read e = rw (le-ltb 65536 (length text) h, e)

    pub read_built :
        {values : List ℕ} → read_list_of text limit limit ≡ given values
        → make_of p limit text ≡ build_of p limit (codes_of (pairs_of_text text)) (schedules_of (pairs_of_text text)) 16384
    unfolding make_of
    read_built e = rw (le-ltb 65536 (length text) h, e)

  -- the words of the table, or a refusal
  pub make_answers : GivenOrRefused (words_needed p (codes_of (pairs_of_text text)) ∷ []) (make_of p limit text)
  make_answers =
      elim (dec_le (length text) 65536) [
        | yes h ↦
            ⊎_elim
            (λ g. let e = read_built h g in rw e (build_answers p limit (codes_of (pairs_of_text text)) (schedules_of (pairs_of_text text)) 16384))
            (λ (number, value, g). inr (number, value, not_read h g))
            (read_answers text limit limit)
        | no l ↦ inr (61, 0, too_long (omega arith))
      ]

-- ---- the bytes of a text of at most 65,536 bytes, by what is read

module _ (p limit : ℕ) (text : List ℕ) (h : length text ≤ 65536) where
  pub refused_line_lem :
      {answer : Answer} → answer ≡ read_list_of text limit limit → (number : ℕ) × (value : ℕ) × (answer ≡ refused number value)
      → made_of p limit text ≡ refused_line (number_of answer) (value_of answer)
  refused_line_lem answers (number, value, e) =
      rw (made_refused p limit text number value (not_read p limit text h (sym answers ∙ e)), e)

  pub built_bytes :
      {n : ℕ} {codes schedules : List ℕ} → PairsHeld text limit n codes schedules
      → made_of p limit text ≡ bytes_for p (take n codes) (take n schedules) (build_of p limit (take n codes) (take n schedules) 16384)
  unfolding made_of
  built_bytes r = rw (read_built p limit text h r.given_is, r.codes_held, r.schedules_held)

-- ---- in lent memory

pub table_made :
    (p limit : ℕ) (text : List ℕ) {old : List ℕ} {end : ℕ} {new : List ℕ} → Added (made_of p limit text) 0 old end new
    → TableMade p limit text old end new
table_made p limit text {old} {end} {new} a =
    let length_is = a.place ∙ zero-add (length (made_of p limit text)) in
    let fits : end ≤ length new = omega (arith, a.fits, kept a) in
    record {
      length_is = length_is;
      bytes = a.memory ∙ ap (λ (n : ℕ). made_of p limit text ++ drop n old) length_is;
      part = (fits, sym (length-take-le end new fits));
    }
