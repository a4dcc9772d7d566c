-- P1 to P12. The checker computes each list's table and that none of 1 to 5 refuses it, once; what a build of it answers and leaves
-- follows for any lent words. The other cases are computed as they stand.
use Prim.Native.Nat.{ℕ, ◌≤◌}
use mathlib.Core.Bool.{false}
use mathlib.Core.List.{List, [], ◌∷◌, ◌++◌}
use mathlib.Core.Path.{◌≡◌, refl, sym, ap, ◌∙◌}
use native.Mathlib.Omega.{arith}
use lib.Dec.{lit≤}
use lib.ListN.{length, drop}
use borrow.Author.Tests.{le-ltb}
use Rattle.hash.specs.Hash.{hash_of, load, members, together, sum, cells, least_from, least}
use Rattle.prelude.specs.Answers.{Answer, given, refused, first_of, or_refused, into_room, filled}
use Rattle.table.specs.Words.{block_of, cell_in, own_cell}
use Rattle.prelude.specs.Tabulate.{tabulate}
use Rattle.table.specs.TwoLevel.{blocks_multiplier, cells_multiplier, start_of, front_with, front_of, held_at, table_with, cells_of, words_needed, table_of}
use Rattle.table.specs.Sizes.{bad_sizes}
use Rattle.lookup.specs.Lookup.{in_cell, in_block, lookup_of}
use Rattle.prelude.specs.Pairs.{paired, value_where, among}
use Rattle.table.proofs.Contents.{table_length}
use Rattle.panel.proofs.Past.{panel_past}
use Rattle.panel.specs.Panel.{bad_holds, largest_of, longest, least_longest, deciding, walk_of, panel_of}
use Rattle.repeats.specs.Repeated.{repeated}
use Rattle.lists.specs.List.{bad_code, bad_schedule, list_or}
use Rattle.lists.proofs.Valid.{list_first}
use Rattle.builder.specs.Build.{build_of, built_words}
use Rattle.vectors.specs.Firings.{Gives, Refuses, Firings, codes3, schedules3, table3, table5, tied5, holds12}

-- ---- a build, from what 1 to 5 say of the list and from its table

-- the refusals of the list, and then the room
list_decides :
    (codes schedules : List ℕ) (r : Answer) → list_or 65537 2048 codes schedules (given []) ≡ r
    → (lent : ℕ) → build_of 65537 2048 codes schedules lent ≡ or_refused r (into_room 6 (words_needed 65537 codes) lent)
unfolding build_of
list_decides codes schedules r listed lent =
    list_first 65537 2048 codes schedules (into_room 6 (words_needed 65537 codes) lent)
    ∙ ap (λ (x : Answer). or_refused x (into_room 6 (words_needed 65537 codes) lent)) listed

refuses :
    (codes schedules : List ℕ) (lent number value : ℕ) → build_of 65537 2048 codes schedules lent ≡ refused number value
    → Refuses codes schedules lent number value
unfolding built_words
refuses codes schedules lent number value e =
    record {
      answers = e;
      words_kept = λ words l.
          ap (λ (r : Answer). filled r (table_of 65537 codes schedules) words)
          (ap (build_of 65537 2048 codes schedules) l ∙ e);
    }

module _
    (codes schedules table : List ℕ)
    (listed : list_or 65537 2048 codes schedules (given []) ≡ given [])
    (tabled : table_of 65537 codes schedules ≡ table)
  where
    -- the room decides
    into_room_lem : (lent : ℕ) → build_of 65537 2048 codes schedules lent ≡ into_room 6 (length table) lent
    into_room_lem lent =
        list_decides codes schedules (given []) listed lent
        ∙ ap (λ (n : ℕ). into_room 6 n lent) (sym (table_length 65537 codes schedules) ∙ ap length tabled)

    in_enough : (lent : ℕ) → length table ≤ lent → build_of 65537 2048 codes schedules lent ≡ given (length table ∷ [])
    in_enough lent h = into_room_lem lent ∙ rw (le-ltb lent (length table) h)

    gives : Gives codes schedules table
    unfolding built_words
    gives =
        record {
          table_is = tabled;
          answers = in_enough;
          words_left = λ words h.
              ap (λ (r : Answer). filled r (table_of 65537 codes schedules) words) (in_enough (length words) h)
              ∙ ap (λ (t : List ℕ). t ++ drop (length t) words) tabled;
        }

-- ---- a panel, by holds of which it was computed once that 74 does not refuse them

fires :
    (words holds : List ℕ) (a : ℕ) (codes : List ℕ) (r : Answer) → bad_holds holds ≡ false → length (a ∷ codes) ≤ 64
    → walk_of 65537 2048 words holds (a ∷ codes) ≡ r → panel_of 65537 2048 words holds (a ∷ codes) ≡ r
fires words holds a codes r right few e = panel_past 65537 2048 words holds (a ∷ codes) (λ none. absurd (omega arith)) few right ∙ e

right12 : bad_holds holds12 ≡ false
unfolding first_of bad_holds
right12 = refl

-- ---- the cases

pub firings : Firings
unfolding hash_of load members together sum cells least_from least first_of block_of cell_in own_cell tabulate blocks_multiplier cells_multiplier start_of front_with front_of paired value_where held_at table_with cells_of table_of bad_sizes in_cell in_block lookup_of bad_holds largest_of longest least_longest deciding walk_of panel_of among bad_code bad_schedule repeated list_or
firings =
    let listed3 : list_or 65537 2048 codes3 schedules3 (given []) ≡ given [] = refl in
    let tabled3 : table_of 65537 codes3 schedules3 ≡ table3 = refl in
    record {
      P1 = gives _ _ _ refl refl;
      P2 = gives _ _ _ refl refl;
      P3 = gives _ _ _ listed3 tabled3;
      P3_total = refl;
      P4 = gives _ _ _ refl refl;
      P5 = gives _ _ _ refl refl;
      P6 = refl;
      P7_0 = refl;
      P7_1 = refl;
      P7_2 = refl;
      P7_3 = refl;
      P7_4 = refl;
      P7_5 = refl;
      P8_found = refl;
      P8_absent = refl;
      P8_own_10 = refl;
      P8_own_6 = refl;
      P8_holds = refl;
      P9 = refl;
      P9_block = refl;
      P9_start = refl;
      P9_end = refl;
      P10 = refuses _ _ 14 _ _ (into_room_lem codes3 schedules3 table3 listed3 tabled3 14);
      P11 = λ lent. refuses _ _ lent _ _ (list_decides (5 ∷ 5 ∷ []) (1 ∷ 1 ∷ []) (refused 5 1) refl lent);
      P12 = fires table5 holds12 7 (17 ∷ 4 ∷ []) _ right12 (lit≤ tt) refl;
      P12_cell = refl;
      P12_7 = refl;
      P12_17 = refl;
      P12_4 = refl;
      P12_equal = refl;
      P12_tied = refl;
      P12_first_7 = fires tied5 holds12 7 (17 ∷ []) _ right12 (lit≤ tt) refl;
      P12_first_17 = fires tied5 holds12 17 (7 ∷ []) _ right12 (lit≤ tt) refl;
      P12_not_in_use = fires table5 holds12 7 (8 ∷ 9 ∷ []) _ right12 (lit≤ tt) refl;
      P12_unknown = fires table5 holds12 7 (9 ∷ 8 ∷ []) _ right12 (lit≤ tt) refl;
      P12_998 = refl;
      P12_10081 = refl;
    }
