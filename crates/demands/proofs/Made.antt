-- A text of a valid list is made a file whose words are its table: nothing refuses it, and the words of a well-formed table are small, so their bytes
-- are theirs alone.
use Prim.Native.Nat.{ℕ, zero, suc, ◌+◌, ◌*◌, ◌-◌, ◌<◌, ◌≤◌}
use native.Mathlib.Decide.{ℕ_discrete, dec_lt}
use native.Mathlib.Omega.{arith}
use mathlib.Core.List.{List, [], ◌∷◌}
use mathlib.Core.Path.{◌≡◌}
use borrow.Author.Tests.{le-ltb, eq-eqb, ne_eqb}
use lib.ListN.{length, get_or, length-map}
use Rattle.hash.proofs.Primes.{prime_65537}
use Rattle.prelude.specs.Answers.{given}
use Rattle.prelude.specs.Pairs.{Pair, codes_of, schedules_of}
use Rattle.table.specs.Words.{code_count, cell_count, total}
use Rattle.table.specs.TwoLevel.{words_needed, table_of}
use Rattle.table.proofs.Contents.{table_length}
use Rattle.audit.specs.WellFormed.{WellFormed}
use Rattle.files.specs.Bytes.{words_of}
use Rattle.files.proofs.ByteLaws.{words_of_bytes}
use Rattle.lines.proofs.LineLaws.{lines_few}
use Rattle.lists.specs.Valid.{Valid}
use Rattle.suppliers.specs.Text.{TextOf}
use Rattle.suppliers.proofs.TextLaws.{text_pairs, text_is}
use Rattle.suppliers.proofs.ReadLaws.{none_faulty, line_count, enough_read}
use Rattle.maker.specs.Making.{make_of, made_of}
use Rattle.maker.proofs.MakeLaws.{made_table}
use Rattle.demands.specs.Lists.{enough}
use Rattle.demands.proofs.Reading.{reading}
use Rattle.demands.proofs.Building.{building, whole}
use Rattle.demands.proofs.BuildingBuild.{build_succeeds, needed_enough}

-- every word of a well-formed table is small
module _ {words : List ℕ} (f : WellFormed 65537 2048 words) where
  few_cells : cell_count words ≤ 6144
  few_cells =
      elim (ℕ_discrete (code_count words) 0) [
        | yes e ↦ omega (arith, f.no_cells e)
        | no ne ↦ omega (arith, f.few_cells (omega arith), f.few_codes)
      ]

  first_words : (i : ℕ) → i < 3 → get_or words i 0 < 65537
  first_words zero h = omega (arith, f.few_codes)
  first_words (suc zero) h = omega (arith, few_cells)
  first_words (suc (suc zero)) h = f.in_range.1
  first_words (suc (suc (suc i))) h = absurd (omega arith)

  -- an index of the array that begins at `from`
  index : (from i : ℕ) → from ≤ i → from + (i - from) ≡ i
  index from i h = omega arith

  small : (i : ℕ) → i < total words → get_or words i 0 < 65537
  small i l =
      let n = code_count words in
      let c = cell_count words in
      elim (dec_lt i 3) [
        | yes a ↦ first_words i a
        | no a ↦
            elim (dec_lt i (3 + n)) [
              | yes b ↦
                  let start = rw (index 3 i (omega arith)) at (f.within (i - 3) (omega arith)) in
                  omega (arith, start, few_cells)
              | no b ↦
                  elim (dec_lt i (3 + 2 * n)) [
                    | yes d ↦ rw (index (3 + n) i (omega arith)) at (f.block_in_range (i - (3 + n)) (omega arith)).1
                    | no d ↦
                        elim (dec_lt i (3 + 2 * n + c)) [
                          | yes e ↦ rw (index (3 + 2 * n) i (omega arith)) at (f.code_in_range (i - (3 + 2 * n)) (omega arith))
                          | no e ↦
                              let schedule =
                              rw (index (3 + 2 * n + c) i (omega arith)) at (f.schedule_in_range (i - (3 + 2 * n + c)) (omega arith))
                              in
                              omega (arith, schedule)
                        ]
                  ]
            ]
      ]

enough_most : (n : ℕ) → n ≤ 2048 → enough n ≤ 16384
unfolding enough
enough_most n h =
    elim (ℕ_discrete n 0) [ yes e ↦ rw (eq-eqb n 0 e) (omega arith) | no ne ↦ rw (ne_eqb n 0 ne) (omega arith) ]

module _ (pairs : List Pair) (text : List ℕ) (t : TextOf pairs text) (valid : Valid 65537 2048 (codes_of pairs) (schedules_of pairs)) where
  few_pairs : length pairs ≤ 2048
  few_pairs = rw (length-map pairs (λ (r : Pair). r.code)) at valid.few

  short_text : length text ≤ 65536
  short_text = rw (text_is pairs text t) (omega (arith, lines_few 44 pairs, few_pairs))

  needed : words_needed 65537 (codes_of pairs) ≤ 16384
  needed = omega (arith, needed_enough prime_65537 (codes_of pairs) valid.codes_valid, enough_most (length (codes_of pairs)) valid.few)

  makes : make_of 65537 2048 text ≡ given (words_needed 65537 (codes_of pairs) ∷ [])
  unfolding make_of
  makes =
      rw (
        le-ltb 65536 (length text) short_text,
        enough_read text (none_faulty pairs text t) 2048 2048 (rw (line_count pairs text t) few_pairs) (rw (line_count pairs text t) few_pairs),
        text_pairs pairs text t,
      )
      (build_succeeds (codes_of pairs) (schedules_of pairs) valid 16384 needed)

  table_words : (i : ℕ) → i < length (table_of 65537 (codes_of pairs) (schedules_of pairs)) → get_or (table_of 65537 (codes_of pairs) (schedules_of pairs)) i 0 < 4294967296
  table_words i l =
      let table = table_of 65537 (codes_of pairs) (schedules_of pairs) in
      let begins = whole (codes_of pairs) (schedules_of pairs) valid in
      let of-list = building.tables (codes_of pairs) (schedules_of pairs) valid in
      let f = (reading.check_exactly table).0 (of-list.accepted table begins) in
      let size = table_length 65537 (codes_of pairs) (schedules_of pairs) in
      let blocks = ((of-list.two_level table (omega arith)).0 begins).blocks in
      omega (arith, small f i (omega (arith, of-list.total_is table begins)))

  pub made_file : words_of (made_of 65537 2048 text) ≡ table_of 65537 (codes_of pairs) (schedules_of pairs)
  made_file =
      rw (made_table 65537 2048 text _ makes, text_pairs pairs text t)
      (words_of_bytes (table_of 65537 (codes_of pairs) (schedules_of pairs)) table_words)
