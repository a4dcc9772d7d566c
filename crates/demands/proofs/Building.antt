-- Demands 2 and 3, for every valid list: a built table is well-formed, so what is proved of tables from anywhere holds of it.
use Prim.Native.Nat.{ℕ, ◌≤◌}
use native.Mathlib.Omega.{arith}
use mathlib.Core.List.{List}
use mathlib.Core.Path.{◌≡◌, sym, ap, ◌∙◌}
use lib.ListN.{length, take}
use lib.Seq.{take-length}
use Rattle.hash.proofs.Primes.{prime_65537}
use Rattle.table.specs.Words.{cell_count}
use Rattle.table.specs.TwoLevel.{words_needed, table_of}
use Rattle.lookup.specs.Lookup.{lookup_of}
use Rattle.table.proofs.Contents.{needed_is, table_length, Tabled, tabled}
use Rattle.audit.specs.WellFormed.{WellFormed}
use Rattle.prelude.specs.Pairs.{codes_of, schedules_of}
use Rattle.reader.specs.Pairs.{pairs_in}
use Rattle.audit.proofs.Lookups.{lookup_range}
use Rattle.builder.specs.Build.{built_words}
use Rattle.lists.specs.Valid.{Valid}
use Rattle.demands.specs.Lists.{Listed, right_answer, enough, looked_at}
use Rattle.demands.specs.Theorems.{Accepted, TwoLevelTable, TableOfList, Settled, BuiltFrom, Building}
use Rattle.demands.proofs.Within.{looked_within}
use Rattle.demands.proofs.Reading.{reading}
use Rattle.demands.proofs.RightAnswer.{right_exactly}
use Rattle.demands.proofs.BuildingWellFormed.{well_formed}
use Rattle.demands.proofs.BuildingTwoLevel.{two_level}
use Rattle.demands.proofs.BuildingOnly.{same_c, only_table}
use Rattle.demands.proofs.BuildingLookup.{lookup_right}
use Rattle.demands.proofs.BuildingBuild.{build_succeeds, built_table, built_kept, needed_enough}
use Rattle.demands.proofs.BuildingOrder.{order_succeeds, order_table}

-- ---- the table of a list

module _ (codes schedules : List ℕ) (valid : Valid 65537 2048 codes schedules) where
  pub whole : take (words_needed 65537 codes) (table_of 65537 codes schedules) ≡ table_of 65537 codes schedules
  whole =
      ap (λ (n : ℕ). take n (table_of 65537 codes schedules)) (sym (table_length 65537 codes schedules))
      ∙ take-length (table_of 65537 codes schedules)

  module _ (words : List ℕ) (e : take (words_needed 65537 codes) words ≡ table_of 65537 codes schedules) where
    t : Tabled 65537 codes schedules words
    t = tabled 65537 codes schedules words e

    wf : WellFormed 65537 2048 words
    wf = well_formed prime_65537 codes schedules valid words t

    right : (a : ℕ) → 1 ≤ a → a ≤ 65536 → lookup_of 65537 2048 words a ≡ right_answer codes schedules words a
    right a from to = lookup_right prime_65537 codes schedules valid words t a from (omega arith)

    accept : Accepted words
    accept = (reading.check_exactly words).1 wf

    read : (a s : ℕ) → Listed (codes_of (pairs_in words)) (schedules_of (pairs_in words)) a s → Listed codes schedules a s
    read a s l =
        let (i, found) = (reading.pairs_exactly words accept a s).1 l in
        let range = lookup_range 65537 2048 words a _ (omega arith) found in
        (right_exactly codes schedules words a s valid.parallel valid.codes_valid.different).0
        (i, sym (right a range.0 (omega (arith, range.1))) ∙ found)

    unread : (a s : ℕ) → Listed codes schedules a s → Listed (codes_of (pairs_in words)) (schedules_of (pairs_in words)) a s
    unread a s l =
        let from : 1 ≤ a = omega (arith, l.code_there, valid.codes_valid.positive l.index l.in_list) in
        let to : a ≤ 65536 = omega (arith, l.code_there, valid.codes_valid.below l.index l.in_list) in
        let (i, found) = (right_exactly codes schedules words a s valid.parallel valid.codes_valid.different).1 l in
        (reading.pairs_exactly words accept a s).0 (i, right a from to ∙ found)

  -- the words of the table alone are the two-level table
  own : TwoLevelTable codes schedules (table_of 65537 codes schedules)
  own = two_level codes schedules valid _ (t (table_of 65537 codes schedules) whole)

  only :
      (words : List ℕ) → words_needed 65537 codes ≤ length words → TwoLevelTable codes schedules words
      → take (words_needed 65537 codes) words ≡ table_of 65537 codes schedules
  only words l table =
      let long : length (table_of 65537 codes schedules) ≡ words_needed 65537 codes = table_length 65537 codes schedules in
      let c : cell_count words ≡ cell_count (table_of 65537 codes schedules) = same_c codes schedules words _ table own in
      only_table codes schedules words (table_of 65537 codes schedules) table own (words_needed 65537 codes)
      (omega (arith, needed_is 65537 codes, (t (table_of 65537 codes schedules) whole).celled))
      l
      (omega arith)
      ∙ whole

  table_of_list : TableOfList codes schedules
  table_of_list =
      record {
        two_level = λ words l. (λ e. two_level codes schedules valid words (t words e), only words l);
        total_is = λ words e. omega (arith, needed_is 65537 codes, (t words e).celled);
        lookup_right = right;
        accepted = accept;
        reads_back = λ words e a s. (read words e a s, unread words e a s);
      }

-- ---- a build of it

module _
    (codes schedules words : List ℕ) (valid : Valid 65537 2048 codes schedules) (lent : enough (length codes) ≤ length words)
  where
    room : words_needed 65537 codes ≤ length words
    room = omega (arith, needed_enough prime_65537 codes valid.codes_valid)

    built : List ℕ
    built = built_words 65537 2048 codes schedules words

    table : take (words_needed 65537 codes) built ≡ table_of 65537 codes schedules
    unfolding built
    table = built_table codes schedules valid words room

    settled : (a : ℕ) → 1 ≤ a → a ≤ 65536 → Settled codes schedules built a
    settled a from to =
        let t : Tabled 65537 codes schedules built = tabled 65537 codes schedules built table in
        record {
          positions = looked_at 65537 built a;
          eight = reading.eight_at_most built a;
          of_table = λ i l. omega (arith, looked_within (well_formed prime_65537 codes schedules valid built t) a i l, t.totals);
          settle = λ other same agree. reading.eight_settle built other a same agree ∙ right codes schedules valid built table a from to;
        }

    built_from : BuiltFrom codes schedules words
    unfolding built
    built_from =
        record {
          succeeds = build_succeeds codes schedules valid (length words) room;
          table = table;
          bound = needed_enough prime_65537 codes valid.codes_valid;
          kept = built_kept codes schedules valid words room;
          any_order = λ codes' schedules' words' valid' same lent'.
              let room' : words_needed 65537 codes' ≤ length words'
              = omega (arith, needed_enough prime_65537 codes' valid'.codes_valid) in (
                order_succeeds prime_65537 codes schedules codes' schedules' valid valid' same (length words') room',
                order_table prime_65537 codes schedules codes' schedules' valid valid' same words' room' ∙ sym table,
              );
          settled = settled;
        }

pub building : Building
building = record { tables = table_of_list; any_list = built_from }
