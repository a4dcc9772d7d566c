-- P1 to P12 of document 01, "Firings to compare by", a found code with its cell and P12 with holds (document 02, Changes 4 and 5): one table, a field
-- or more for each case.
-- Statements only.
use Rattle.std.specs.Prelude.{ℕ, ◌≤◌, List, [], ◌∷◌, ◌++◌, ◌≡◌, length, take, drop, replicate}
use Rattle.hash.specs.Hash.{load, members}
use Rattle.prelude.specs.Answers.{given, absent, unknown, refused}
use Rattle.table.specs.Words.{block_start, block_end, cell_code, block_of, own_cell}
use Rattle.prelude.specs.Tabulate.{tabulate}
use Rattle.table.specs.TwoLevel.{table_of}
use Rattle.lookup.specs.Lookup.{lookup_of}
use Rattle.panel.specs.Panel.{panel_of}
use Rattle.builder.specs.Build.{build_of, built_words}

-- a list gives this table: a build of it, in any lent words that are enough, answers its total and leaves the table, and after it the words
-- as they were
pub record Gives (codes schedules table : List ℕ) : Type 0 where
  pub table_is : table_of 65537 codes schedules ≡ table
  pub answers : (lent : ℕ) → length table ≤ lent → build_of 65537 2048 codes schedules lent ≡ given (length table ∷ [])
  pub words_left :
      (words : List ℕ) → length table ≤ length words → built_words 65537 2048 codes schedules words ≡ table ++ drop (length table) words

-- a build in this many lent words is refused by a number with a value, and keeps the words
pub record Refuses (codes schedules : List ℕ) (lent number value : ℕ) : Type 0 where
  pub answers : build_of 65537 2048 codes schedules lent ≡ refused number value
  pub words_kept : (words : List ℕ) → length words ≡ lent → built_words 65537 2048 codes schedules words ≡ words

-- what several fields name: the list and the table of P3, the codes and the table of P5, the codes of P7
abbrev pub codes3 : List ℕ
codes3 = 2 ∷ 6 ∷ []

abbrev pub schedules3 : List ℕ
schedules3 = 1 ∷ 2 ∷ []

abbrev pub table3 : List ℕ
table3 = 2 ∷ 4 ∷ 1 ∷ 0 ∷ 4 ∷ 10923 ∷ 1 ∷ 0 ∷ 6 ∷ 2 ∷ 0 ∷ 0 ∷ 2 ∷ 1 ∷ 0 ∷ []

abbrev pub codes5 : List ℕ
codes5 = 4 ∷ 7 ∷ 8 ∷ 17 ∷ 20 ∷ []

abbrev pub table5 : List ℕ
table5 =
    5 ∷ 7 ∷ 1
    ∷ 0 ∷ 1 ∷ 1 ∷ 5 ∷ 6
    ∷ 1 ∷ 1 ∷ 1 ∷ 1 ∷ 1
    ∷ 20 ∷ 0 ∷ 17 ∷ 0 ∷ 7 ∷ 8 ∷ 4
    ∷ 15 ∷ 0 ∷ 14 ∷ 0 ∷ 12 ∷ 13 ∷ 11 ∷ []

-- the table of the same codes, where 7 has the schedule of 17
abbrev pub tied5 : List ℕ
tied5 = take 20 table5 ++ (15 ∷ 0 ∷ 14 ∷ 0 ∷ 14 ∷ 13 ∷ 11 ∷ [])

-- the holds of P12: 50, 60 and 45 minutes for 11, 12 and 14, and 0 for all others
abbrev pub holds12 : List ℕ
holds12 = replicate 10 0 ++ (50 ∷ 60 ∷ 0 ∷ 45 ∷ []) ++ replicate 985 0

abbrev pub codes7 : List ℕ
codes7 = 2 ∷ 4 ∷ 5 ∷ 15 ∷ 18 ∷ 30 ∷ []

pub record Firings : Type 0 where
  pub P1 : Gives [] [] (0 ∷ 0 ∷ 1 ∷ [])
  pub P2 : Gives (65536 ∷ []) (999 ∷ []) (1 ∷ 1 ∷ 1 ∷ 0 ∷ 1 ∷ 65536 ∷ 999 ∷ [])
  pub P3 : Gives codes3 schedules3 table3
  pub P3_total : length table3 ≡ 15
  pub P4 :
      Gives (3 ∷ 6 ∷ 9 ∷ []) (31 ∷ 32 ∷ 33 ∷ [])
      (3 ∷ 5 ∷ 7282 ∷ 0 ∷ 4 ∷ 5 ∷ 1 ∷ 1 ∷ 1 ∷ 0 ∷ 0 ∷ 6 ∷ 3 ∷ 9 ∷ 0 ∷ 0 ∷ 32 ∷ 31 ∷ 33 ∷ [])
  pub P5 : Gives codes5 (11 ∷ 12 ∷ 13 ∷ 14 ∷ 15 ∷ []) table5
  pub P6 : tabulate (λ t. load 23 2 5 t codes5) 5 ≡ 0 ∷ 2 ∷ 1 ∷ 1 ∷ 1 ∷ []
  pub P7_0 : members 31 2 6 0 codes7 ≡ 15 ∷ []
  pub P7_1 : members 31 2 6 1 codes7 ≡ []
  pub P7_2 : members 31 2 6 2 codes7 ≡ 4 ∷ []
  pub P7_3 : members 31 2 6 3 codes7 ≡ []
  pub P7_4 : members 31 2 6 4 codes7 ≡ 2 ∷ 5 ∷ []
  pub P7_5 : members 31 2 6 5 codes7 ≡ 18 ∷ 30 ∷ []
  pub P8_found : lookup_of 65537 2048 table3 6 ≡ given (2 ∷ 1 ∷ [])
  pub P8_absent : lookup_of 65537 2048 table3 10 ≡ absent
  -- the own cell of 10 is cell 1, as that of 6 is, and it holds 6
  pub P8_own_10 : own_cell 65537 table3 10 ≡ 1
  pub P8_own_6 : own_cell 65537 table3 6 ≡ 1
  pub P8_holds : cell_code table3 1 ≡ 6
  pub P9 : lookup_of 65537 2048 table3 3 ≡ absent
  -- 3 belongs to block 1, which ends where it starts
  pub P9_block : block_of 65537 table3 3 ≡ 1
  pub P9_start : block_start table3 1 ≡ 4
  pub P9_end : block_end table3 1 ≡ 4
  pub P10 : Refuses codes3 schedules3 14 6 15
  -- whatever the number of lent words
  pub P11 : (lent : ℕ) → Refuses (5 ∷ 5 ∷ []) (1 ∷ 1 ∷ []) lent 5 1
  -- 12 has the longest hold; the cell is that of 7, which decides
  pub P12 : panel_of 65537 2048 table5 holds12 (7 ∷ 17 ∷ 4 ∷ []) ≡ given (12 ∷ 4 ∷ [])
  pub P12_cell : cell_code table5 4 ≡ 7
  -- each of its codes alone
  pub P12_7 : lookup_of 65537 2048 table5 7 ≡ given (12 ∷ 4 ∷ [])
  pub P12_17 : lookup_of 65537 2048 table5 17 ≡ given (14 ∷ 2 ∷ [])
  pub P12_4 : lookup_of 65537 2048 table5 4 ≡ given (11 ∷ 6 ∷ [])
  -- of equal holds the least number decides, wherever its code stands: 14 with 60 minutes too
  pub P12_equal :
      panel_of 65537 2048 table5 (replicate 10 0 ++ (50 ∷ 60 ∷ 0 ∷ 60 ∷ []) ++ replicate 985 0) (17 ∷ 7 ∷ 4 ∷ []) ≡ given (12 ∷ 4 ∷ [])
  -- of two codes with the schedule that decides the first: 7 with 14 too
  pub P12_tied : table_of 65537 codes5 (11 ∷ 14 ∷ 13 ∷ 14 ∷ 15 ∷ []) ≡ tied5
  pub P12_first_7 : panel_of 65537 2048 tied5 holds12 (7 ∷ 17 ∷ []) ≡ given (14 ∷ 4 ∷ [])
  pub P12_first_17 : panel_of 65537 2048 tied5 holds12 (17 ∷ 7 ∷ []) ≡ given (14 ∷ 2 ∷ [])
  -- 8 has 13, which is not in use; 9 is absent; the first of the two ends it
  pub P12_not_in_use : panel_of 65537 2048 table5 holds12 (7 ∷ 8 ∷ 9 ∷ []) ≡ refused 75 1
  pub P12_unknown : panel_of 65537 2048 table5 holds12 (7 ∷ 9 ∷ 8 ∷ []) ≡ unknown 1
  -- one hold too few, and one of 10,081 minutes, also where the first code is absent
  pub P12_998 : panel_of 65537 2048 table5 (take 998 holds12) (9 ∷ []) ≡ refused 74 0
  pub P12_10081 : panel_of 65537 2048 table5 (take 998 holds12 ++ (10081 ∷ [])) (9 ∷ []) ≡ refused 74 0
