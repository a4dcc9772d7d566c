-- Suppliers' lists as text: there is one text for a list, so that reading undoes writing and writing reading.
use Prim.Native.Nat.{ℕ, ◌<◌, ◌≤◌}
use native.Mathlib.Omega.{arith}
use mathlib.Core.Bool.{true≢false}
use mathlib.Core.List.{List, [], ◌∷◌}
use mathlib.Core.Logic.{inl, inr}
use mathlib.Core.Path.{◌≡◌, refl, sym, ap, ◌∙◌}
use borrow.Author.Tests.{ltb-true, not-true, not-false}
use lib.ListN.{length, get_or, take, length-map}
use lib.Seq.{take-append_seam}
use Rattle.hash.proofs.Indicators.{true_or_false}
use Rattle.prelude.specs.Answers.{Answer, given, refused, first_of, over}
use Rattle.prelude.specs.Pairs.{Pair, codes_of, schedules_of, paired}
use Rattle.table.specs.TwoLevel.{words_needed}
use Rattle.prelude.proofs.First.{first_is}
use Rattle.builder.specs.Build.{Built}
use Rattle.lines.proofs.LineLaws.{lines_few, paired_length, paired_same}
use Rattle.lists.specs.Valid.{Valid}
use Rattle.suppliers.specs.Text.{Line, TextOf, lines_of, pair_of, pairs_of_text}
use Rattle.suppliers.specs.Lists.{faulty_line, read_list_of, ListRead, list_text, ListWritten}
use Rattle.suppliers.proofs.TextLaws.{line_right, right_line, text_pairs, text_of_right, text_is, text_written}
use Rattle.suppliers.proofs.ReadLaws.{some_faulty, faulty_71, all_right, no_71, none_faulty, too_many, reads, read_right, read_count, codes_read_lem, schedules_read_lem}
use Rattle.demands.specs.Lists.{enough, AllWords}
use Rattle.demands.specs.Theorems.{Texts, BeginsWithTable}
use Rattle.demands.proofs.Building as on-building
use Rattle.demands.proofs.TextsWritten.{writes_all, written, written_same, written_given, paired_codes, paired_schedules}
use Rattle.demands.proofs.Made.{made_file}

first_faulty :
    (text : List ℕ) (a b line : ℕ) → read_list_of text a b ≡ refused 71 line
    → (line < length (lines_of text))
    × ((i : ℕ) → i < line → (r : Pair) × Line (get_or (lines_of text) i []) r)
    × ((r : Pair) → Line (get_or (lines_of text) line []) r → ⊥)
unfolding faulty_line
first_faulty text a b line e =
    elim (true_or_false (some_faulty text)) [
      | inl y ↦
          let first = first_is (length (lines_of text)) (faulty_line text) in
          let g = faulty_71 text a b y in
          let same : line ≡ first_of (length (lines_of text)) (faulty_line text) = cc in
          let below = ltb-true _ _ y in
          rw same (
            below,
            λ i l. (pair_of (get_or (lines_of text) i []), right_line _ (not-false _ (first.below i l))),
            λ r l. true≢false (sym (line_right l []) ∙ not-true _ (first.holds below)),
          )
      | inr f ↦ absurd (no_71 text f a b line e)
    ]

written_read :
    (codes schedules text : List ℕ) (bytes : ℕ) (text' : List ℕ) → AllWords codes → AllWords schedules
    → ListWritten 2048 codes schedules text (given (bytes ∷ [])) text'
    → (codes₀ schedules₀ : List ℕ) (answer : Answer) (codes' schedules' : List ℕ)
    → length codes ≤ length codes₀ → length codes ≤ length schedules₀
    → ListRead (take bytes text') codes₀ schedules₀ answer codes' schedules'
    → (answer ≡ given (length codes ∷ [])) × (codes' ≡ over codes codes₀) × (schedules' ≡ over schedules schedules₀)
written_read codes schedules text bytes text' a b w codes₀ schedules₀ answer codes' schedules' l m r =
    let given-bytes = sym w.answers in
    let same = written_same 2048 codes schedules text bytes given-bytes in
    let all = written_given 2048 codes schedules text bytes given-bytes in
    let count : bytes ≡ length (list_text codes schedules) = cc in
    let left = (written 2048 codes schedules text _ text' all w).1 in
    let whole : take bytes text' ≡ list_text codes schedules = rw (left, count) (take-append_seam (list_text codes schedules) _) in
    let pairs = paired codes schedules in
    let back = paired_codes codes schedules same in
    let number : length pairs ≡ length codes = sym (length-map pairs (λ (p : Pair). p.code)) ∙ ap length back in
    rw (number, back, paired_schedules codes schedules same) at
    (reads pairs (list_text codes schedules) (text_written codes schedules a b) codes₀ schedules₀ answer codes' schedules' (omega arith) (omega arith) (rw whole at r))

read_written :
    (text codes schedules : List ℕ) (n : ℕ) (codes' schedules' : List ℕ)
    → ListRead text codes schedules (given (n ∷ [])) codes' schedules' → n ≤ 2048
    → (text₀ : List ℕ) (answer : Answer) (text' : List ℕ) → length text ≤ length text₀
    → ListWritten 2048 (take n codes') (take n schedules') text₀ answer text'
    → (answer ≡ given (length text ∷ [])) × (text' ≡ over text text₀)
read_written text codes schedules n codes' schedules' r few text₀ answer text' room w =
    let pairs = pairs_of_text text in
    let whole : list_text (codes_of pairs) (schedules_of pairs) ≡ text =
    rw (paired_same pairs) (sym (text_is pairs text (text_of_right text (all_right text (read_right r)))))
    in
    let length-codes : length (codes_of pairs) ≡ n = length-map pairs _ ∙ sym (read_count r) in
    let length-schedules : length (schedules_of pairs) ≡ n = length-map pairs _ ∙ sym (read_count r) in
    rw whole at
    (written 2048 (codes_of pairs) (schedules_of pairs) text₀ answer text'
    (writes_all 2048 (codes_of pairs) (schedules_of pairs) text₀ (length-codes ∙ sym length-schedules) (omega arith) (rw whole room))
    (rw (codes_read_lem r, schedules_read_lem r) at w))

read_built :
    (pairs : List Pair) (text codes schedules : List ℕ) (n : ℕ) (codes' schedules' words : List ℕ) (answer : Answer) (words' : List ℕ)
    → TextOf pairs text → Valid 65537 2048 (codes_of pairs) (schedules_of pairs)
    → ListRead text codes schedules (given (n ∷ [])) codes' schedules' → enough n ≤ length words
    → Built 65537 2048 (take n codes') (take n schedules') words answer words'
    → (answer ≡ given (words_needed 65537 (codes_of pairs) ∷ [])) × BeginsWithTable (codes_of pairs) (schedules_of pairs) words'
read_built pairs text codes schedules n codes' schedules' words answer words' t valid r room b =
    let number : n ≡ length (codes_of pairs) = read_count r ∙ ap length (text_pairs pairs text t) ∙ sym (length-map pairs _) in
    let built = rw (codes_read_lem r, schedules_read_lem r, text_pairs pairs text t) at b in
    let from = (on-building.building).any_list (codes_of pairs) (schedules_of pairs) words valid (rw number at room) in
    (built.answers ∙ from.succeeds, rw built.words_at_exit from.table)

pub texts : Texts
unfolding TextOf
texts =
    record {
      empty = refl;
      faulty_exactly = λ text a b. (
        λ (line, e) pairs t. no_71 text (none_faulty pairs text t) a b line e,
        λ none.
            elim (true_or_false (some_faulty text)) [
              | inl y ↦ (first_of (length (lines_of text)) (faulty_line text), faulty_71 text a b y)
              | inr f ↦ absurd (none (pairs_of_text text) (text_of_right text (all_right text f)))
            ],
      );
      first_faulty = first_faulty;
      too_many = λ pairs text a b t. too_many pairs text t a b;
      reads = λ pairs text codes schedules answer codes' schedules' t. reads pairs text t codes schedules answer codes' schedules';
      one_text = λ pairs text other t o. text_is pairs text t ∙ sym (text_is pairs other o);
      one_list = λ pairs others text t o. sym (text_pairs pairs text t) ∙ text_pairs others text o;
      writes = λ codes schedules text answer text' same few room w.
          written 2048 codes schedules text answer text'
          (writes_all 2048 codes schedules text (sym same) few
          (omega (arith, lines_few 44 (paired codes schedules), paired_length codes schedules)))
          w;
      writes_text = text_written;
      written_read = written_read;
      read_written = read_written;
      read_built = read_built;
      made_file = made_file;
    }
