-- The text for a file: which answer leads to which lines, and what reading back leaves in the two arrays.
use Prim.Native.Nat.{ℕ, ◌%◌, ◌<◌, ◌≤◌}
use mathlib.Core.List.{List, [], ◌∷◌, ◌++◌, map}
use mathlib.Core.Logic.{⊎_elim}
use mathlib.Core.Path.{◌≡◌, refl, ◌∙◌, ap}
use native.Mathlib.Nat.{zero-add}
use native.Mathlib.Omega.{arith}
use borrow.Author.Tests.{le-ltb, lt-ltb, eq-eqb, ne_eqb}
use lib.ListN.{length, take, drop, length-map}
use lib.Seq.{take_at}
use Rattle.prelude.specs.Answers.{Answer, given, refused}
use Rattle.table.specs.Words.{code_count}
use Rattle.audit.specs.Check.{check_of}
use Rattle.prelude.specs.Pairs.{Pair, codes_of, schedules_of}
use Rattle.reader.specs.Pairs.{pairs_in, pairs_of, PairsRead}
use Rattle.audit.specs.WellFormed.{WellFormed}
use Rattle.reader.proofs.PairLaws.{pairs_length}
use Rattle.audit.proofs.WellFormed.{accepted_or_refused, check_exactly}
use Rattle.decimal.specs.code.Added.{Added}
use Rattle.listing.specs.Listing.{FileListed}
use Rattle.listing.specs.code.Lines.{table_lines}
use Rattle.prelude.specs.Numbers.{number_of, value_of}
use Rattle.audit.proofs.Answered.{refuses as refusal}
use Rattle.prelude.proofs.Refusals.{never_both}
use Rattle.reader.specs.ReadBack.{read_error_of}
use Rattle.reader.specs.declared.pairs.ReadError.{ReadError}
use Rattle.reader.specs.declared.pairs.ReadError.TheVariants.{TooFewPlaces, Refused}
use Rattle.files.specs.Bytes.{words_of}
use Rattle.listing.specs.Listing.{table_text, file_of, text_of, listing_of}
use Rattle.lines.specs.Lines.{refused_line}
use Rattle.lines.proofs.LineLaws.{paired_same}

-- the text for bytes, by their number
module _ (p limit : ℕ) (bytes : List ℕ) where
  listing_is : listing_of p limit bytes ≡ text_of (file_of p limit bytes) (words_of bytes)
  unfolding listing_of
  listing_is = refl

  pub too_long : 65536 < length bytes → listing_of p limit bytes ≡ refused_line 61 0
  unfolding file_of text_of
  too_long h = rw (listing_is, lt-ltb 65536 (length bytes) h)

  pub ragged : length bytes ≤ 65536 → (length bytes % 4 ≡ 0 → ⊥) → listing_of p limit bytes ≡ refused_line 62 0
  unfolding file_of text_of
  ragged h e = rw (listing_is, le-ltb 65536 (length bytes) h, ne_eqb (length bytes % 4) 0 e)

  pub whole :
      length bytes ≤ 65536 → length bytes % 4 ≡ 0 → listing_of p limit bytes ≡ text_of (check_of p limit (words_of bytes)) (words_of bytes)
  unfolding file_of
  whole h e = rw (listing_is, le-ltb 65536 (length bytes) h, eq-eqb (length bytes % 4) 0 e)

-- a listing from the first byte on
pub file_listed :
    (p limit : ℕ) (bytes : List ℕ) {old : List ℕ} {r : ℕ} {new : List ℕ} → Added (listing_of p limit bytes) 0 old r new
    → FileListed p limit bytes old r new
file_listed p limit bytes {old} a =
    let length_is = a.place ∙ zero-add (length (listing_of p limit bytes)) in
    record {
      length_is = length_is;
      text = a.memory ∙ ap (λ (n : ℕ). listing_of p limit bytes ++ drop n old) length_is;
    }

-- what is written of a well-formed table, with its pairs in the first n places of two arrays
pub record ListedTable (p limit : ℕ) (words : List ℕ) (n : ℕ) (codes schedules : List ℕ) : Type 0 where
  pub few : n ≤ limit
  pub three : 3 ≤ length words
  pub codes_length : length (take n codes) ≡ n
  pub schedules_length : length (take n schedules) ≡ n
  pub text : text_of (check_of p limit words) words ≡ table_lines words (take n codes) (take n schedules)

mapped_length : {p limit : ℕ} {words : List ℕ} → WellFormed p limit words → (g : Pair → ℕ) → length (map g (pairs_in words)) ≡ code_count words
mapped_length {words = words} f g = length-map (pairs_in words) g ∙ pairs_length f

-- with a place for each code, reading back refuses exactly what the check refuses
module _
    {p limit : ℕ} {words codes schedules : List ℕ} {answer : Answer} {codes' schedules' : List ℕ} (a : limit ≤ length codes)
    (b : limit ≤ length schedules) (r : PairsRead p limit words codes schedules answer codes' schedules') where
  refuses : {number value : ℕ} → check_of p limit words ≡ refused number value → answer ≡ refused number value
  unfolding pairs_of
  refuses e = r.answers ∙ rw e

  gives : WellFormed p limit words → pairs_of p limit words codes schedules ≡ given (code_count words ∷ [])
  unfolding pairs_of
  gives f =
      rw (
        (check_exactly p limit words).1 f,
        le-ltb (length codes) (code_count words) (omega (arith, f.few_codes)),
        le-ltb (length schedules) (code_count words) (omega (arith, f.few_codes)),
      )

  codes_read_lem : WellFormed p limit words → take (code_count words) codes' ≡ codes_of (pairs_in words)
  codes_read_lem f = rw (r.codes_at_exit, gives f) (take_at _ _ _ (mapped_length f (λ (x : Pair). x.code)))

  schedules_read_lem : WellFormed p limit words → take (code_count words) schedules' ≡ schedules_of (pairs_in words)
  schedules_read_lem f = rw (r.schedules_at_exit, gives f) (take_at _ _ _ (mapped_length f (λ (x : Pair). x.schedule)))

  listed_pairs : WellFormed p limit words → ListedTable p limit words (code_count words) codes' schedules'
  unfolding text_of table_text table_lines
  listed_pairs f =
      record {
        few = f.few_codes;
        three = f.three;
        codes_length = rw (codes_read_lem f) (mapped_length f (λ (x : Pair). x.code));
        schedules_length = rw (schedules_read_lem f) (mapped_length f (λ (x : Pair). x.schedule));
        text = rw ((check_exactly p limit words).1 f, codes_read_lem f, schedules_read_lem f, paired_same (pairs_in words));
      }

  pub listed : {n : ℕ} → answer ≡ given (n ∷ []) → ListedTable p limit words n codes' schedules'
  listed {n} e =
      ⊎_elim
      (λ g.
      let f = (check_exactly p limit words).0 g in
      let h = r.answers ∙ gives f in
      let same : n ≡ code_count words = cc in
      rw same (listed_pairs f))
      (λ (number, value, g). let h = refuses g in let z : ◌≡◌ {A = ℕ} 0 1 = cc in absurd (omega arith))
      (accepted_or_refused p limit words)

  pub refused_text :
      ((n : ℕ) → answer ≡ given (n ∷ []) → ⊥) → text_of (check_of p limit words) words ≡ refused_line (number_of answer) (value_of answer)
  unfolding text_of
  refused_text none =
      ⊎_elim
      (λ g. absurd (none _ (r.answers ∙ gives ((check_exactly p limit words).0 g))))
      (λ (number, value, g). rw (g, refuses g))
      (accepted_or_refused p limit words)

-- where reading back gives no pairs, it refuses
pub no_pairs : (e : ReadError) (n : ℕ) → read_error_of e ≡ given (n ∷ []) → ⊥
no_pairs (TooFewPlaces m) n h = never_both refl h
no_pairs (Refused e) n h = never_both (refusal e).2 h

-- what reading back gives of words, with a place for each code
module _
    {p limit : ℕ} {words codes schedules codes' schedules' : List ℕ} (a : limit ≤ length codes) (b : limit ≤ length schedules) where
  pub listed_read :
      {n m : ℕ} → PairsRead p limit words codes schedules (given (n ∷ [])) codes' schedules' → m ≡ n → ListedTable p limit words m codes' schedules'
  listed_read r e = rw e (listed a b r refl)

  pub refused_read :
      (e : ReadError) → PairsRead p limit words codes schedules (read_error_of e) codes' schedules'
      → text_of (check_of p limit words) words ≡ refused_line (number_of (read_error_of e)) (value_of (read_error_of e))
  refused_read e r = refused_text a b r (no_pairs e)
