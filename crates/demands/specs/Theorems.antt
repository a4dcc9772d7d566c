-- The demands on the product, and the laws of document 02, as theorems of the definitions that its contracts cite: prime 65,537, at most 2,048 pairs.
-- Statements only; proofs/Theorems.antt has a value of each record.
use Rattle.std.specs.Prelude.{ℕ, ◌+◌, ◌*◌, ◌/◌, ◌%◌, ◌<◌, ◌≤◌, cond, List, [], ◌∷◌, ◌++◌, ◌↔◌, ◌⊎◌, ◌≡◌, eqb, leb, length, get_or, take, drop}
use Rattle.hash.specs.Hash.{load, members, together, sum, cells}
use Rattle.hash.specs.Theorems.{Least}
use Rattle.prelude.specs.Answers.{Answer, given, absent, refused, over}
use Rattle.table.specs.Words.{code_count, cell_count, multiplier, total, block_start, block_end, block_multiplier, cell_code, cell_schedule, own_cell}
use Rattle.table.specs.TwoLevel.{words_needed, table_of}
use Rattle.lookup.specs.Lookup.{lookup_of}
use Rattle.prelude.specs.declared.answers.Numbered.{Numbered}
use Rattle.prelude.specs.declared.answers.NumberedSize.{NumberedSize}
use Rattle.panel.specs.Panel.{hold_of, panel_of}
use Rattle.audit.specs.Check.{check_of}
use Rattle.audit.specs.WellFormed.{WellFormed}
use Rattle.prelude.specs.Pairs.{Pair, codes_of, schedules_of, paired}
use Rattle.reader.specs.Pairs.{pairs_in, pairs_of, PairsRead}
use Rattle.builder.specs.Build.{build_of, built_words, Built}
use Rattle.editor.specs.Edit.{without, with_pair, table_of_pairs, insert_of, remove_of, Inserted, Removed}
use Rattle.files.specs.Bytes.{words_of, bytes_of, WordsFilled, BytesFilled}
use Rattle.listing.specs.Listing.{file_of, text_of, listing_of}
use Rattle.suppliers.specs.Text.{Line, TextOf, lines_of, pairs_of_text}
use Rattle.suppliers.specs.Lists.{read_list_of, ListRead, list_text, write_list_of, ListWritten}
use Rattle.maker.specs.Making.{made_of}
use Rattle.generator.specs.TestLoad.{test_code, test_codes, test_schedules, generate_of, LoadGenerated}
use Rattle.glass_c.specs.Exports.{BuildShown, PairsShown, InsertShown, RemoveShown, ReadListShown, WriteListShown, GenerateShown}
use Rattle.lists.specs.Valid.{Valid}
use Rattle.demands.specs.Lists.{Listed, SamePairs, FoundWith, right_answer, enough, AgreeAt, looked_at, AllWords, AllBytes}
use Rattle.demands.specs.Answered.{IsRefusal, ResultOr, LookupAnswer, PanelAnswer, FilledOrKept, schedule_alone, read_as}
use Rattle.demands.specs.Panels.{RightHolds, Rising, DecidedBy, Met, panel_by_number}

-- the refusals of a check: those that come with 0, and the others
abbrev pub check_alone : List ℕ
check_alone = 11 ∷ 12 ∷ 13 ∷ 14 ∷ []

abbrev pub check_valued : List ℕ
check_valued = 15 ∷ 16 ∷ 17 ∷ 18 ∷ 19 ∷ 20 ∷ 21 ∷ []

-- Demand 1: what each operation answers, whatever the list, the words and the code
pub record Answering : Type 0 where
  -- build: the total, or 1 to 6
  pub build :
      (codes schedules : List ℕ) (lent : ℕ)
      → ResultOr (words_needed 65537 codes ∷ []) (1 ∷ 2 ∷ []) (3 ∷ 4 ∷ 5 ∷ 6 ∷ []) (build_of 65537 2048 codes schedules lent)
  -- check: n and the total, or 11 to 21
  pub check :
      (words : List ℕ) → ResultOr (code_count words ∷ total words ∷ []) check_alone check_valued (check_of 65537 2048 words)
  -- look up: found with a schedule from 1 to 999 and a cell below c, absent, or 31 to 34 with 0
  pub lookup : (words : List ℕ) (a : ℕ) → LookupAnswer (cell_count words) (lookup_of 65537 2048 words a)
  -- panel: a schedule from 1 to 999 and a cell below c, unknown, 31 to 34 or 75 with an index, or 35, 36 and 74
  pub panel : (words holds codes : List ℕ) → PanelAnswer (cell_count words) (length codes) (panel_of 65537 2048 words holds codes)
  -- read back: n, a refusal of the check, or 41
  pub pairs :
      (words codes schedules : List ℕ)
      → ResultOr (code_count words ∷ []) check_alone (check_valued ++ (41 ∷ [])) (pairs_of 65537 2048 words codes schedules)
  -- put in: the new total, a refusal of the check, or 51 to 54
  pub insert :
      (words : List ℕ) (code schedule lent : ℕ)
      → ResultOr (words_needed 65537 (codes_of (with_pair code schedule (pairs_in words))) ∷ []) (51 ∷ 52 ∷ check_alone ++ (53 ∷ []))
      (check_valued ++ (54 ∷ []))
      (insert_of 65537 2048 words code schedule lent)
  -- take out: the new total, a refusal of the check, 51, 55 or 54
  pub remove :
      (words : List ℕ) (code lent : ℕ)
      → ResultOr (words_needed 65537 (codes_of (without code (pairs_in words))) ∷ []) (51 ∷ check_alone ++ (55 ∷ []))
      (check_valued ++ (54 ∷ []))
      (remove_of 65537 2048 words code lent)
  -- the program that lists: the check's answer, or 61 and 62
  pub file :
      (bytes : List ℕ)
      → ResultOr (code_count (words_of bytes) ∷ total (words_of bytes) ∷ []) (61 ∷ 62 ∷ check_alone) check_valued
      (file_of 65537 2048 bytes)
  -- a supplier's text: the number of its lines, or 71 and 72
  pub read_list :
      (text : List ℕ) (codes schedules : ℕ)
      → ResultOr (length (lines_of text) ∷ []) [] (71 ∷ 72 ∷ []) (read_list_of text codes schedules)
  -- a list written as text: the number of its bytes, or 1, 2 and 72
  pub write_list :
      (codes schedules : List ℕ) (lent : ℕ)
      → ResultOr (length (list_text codes schedules) ∷ []) (1 ∷ 2 ∷ []) (72 ∷ []) (write_list_of 2048 codes schedules lent)
  -- a test load: its length, or 73
  pub generate : (n codes schedules : ℕ) → ResultOr (n ∷ []) (73 ∷ []) [] (generate_of 2048 n codes schedules)

-- Demand 1: a refusal leaves all lent memory as it was. Each operation that is lent memory, by its contract
pub record Keeping : Type 0 where
  pub build :
      (codes schedules words : List ℕ) (answer : Answer) (words' : List ℕ)
      → Built 65537 2048 codes schedules words answer words' → IsRefusal answer → words' ≡ words
  pub pairs :
      (words codes schedules : List ℕ) (answer : Answer) (codes' schedules' : List ℕ)
      → PairsRead 65537 2048 words codes schedules answer codes' schedules' → IsRefusal answer
      → (codes' ≡ codes) × (schedules' ≡ schedules)
  pub insert :
      (words : List ℕ) (code schedule : ℕ) (second : List ℕ) (answer : Answer) (second' : List ℕ)
      → Inserted 65537 2048 words code schedule second answer second' → IsRefusal answer → second' ≡ second
  pub remove :
      (words : List ℕ) (code : ℕ) (second : List ℕ) (answer : Answer) (second' : List ℕ)
      → Removed 65537 2048 words code second answer second' → IsRefusal answer → second' ≡ second
  pub read_list :
      (text codes schedules : List ℕ) (answer : Answer) (codes' schedules' : List ℕ)
      → ListRead text codes schedules answer codes' schedules' → IsRefusal answer → (codes' ≡ codes) × (schedules' ≡ schedules)
  pub write_list :
      (codes schedules text : List ℕ) (answer : Answer) (text' : List ℕ)
      → ListWritten 2048 codes schedules text answer text' → IsRefusal answer → text' ≡ text
  pub generate :
      (n : ℕ) (codes schedules : List ℕ) (answer : Answer) (codes' schedules' : List ℕ)
      → LoadGenerated 2048 n codes schedules answer codes' schedules' → IsRefusal answer → (codes' ≡ codes) × (schedules' ≡ schedules)

-- the same of the C exports: the number 0 is a result with its value and memory, and any other number leaves the memory as it was
pub record Exporting : Type 0 where
  pub glass_build :
      (codes schedules words : List ℕ) (r : Numbered) (words' : List ℕ)
      → BuildShown 65537 2048 codes schedules words r words'
      → FilledOrKept r.number r.value (words_needed 65537 codes) (table_of 65537 codes schedules) words words'
  pub glass_pairs :
      (words codes schedules : List ℕ) (r : Numbered) (codes' schedules' : List ℕ)
      → PairsShown 65537 2048 words codes schedules r codes' schedules'
      → FilledOrKept r.number r.value (code_count words) (codes_of (pairs_in words)) codes codes'
      × FilledOrKept r.number r.value (code_count words) (schedules_of (pairs_in words)) schedules schedules'
  pub glass_insert :
      (words : List ℕ) (code schedule : ℕ) (second : List ℕ) (r : Numbered) (second' : List ℕ)
      → InsertShown 65537 2048 words code schedule second r second'
      → let changed = with_pair code schedule (pairs_in words) in
      FilledOrKept r.number r.value (words_needed 65537 (codes_of changed)) (table_of_pairs 65537 changed) second second'
  pub glass_remove :
      (words : List ℕ) (code : ℕ) (second : List ℕ) (r : Numbered) (second' : List ℕ)
      → RemoveShown 65537 2048 words code second r second'
      → let changed = without code (pairs_in words) in
      FilledOrKept r.number r.value (words_needed 65537 (codes_of changed)) (table_of_pairs 65537 changed) second second'
  pub glass_read_list :
      (text codes schedules : List ℕ) (r : NumberedSize) (codes' schedules' : List ℕ)
      → ReadListShown text codes schedules r codes' schedules'
      → FilledOrKept r.number r.value (length (lines_of text)) (codes_of (pairs_of_text text)) codes codes'
      × FilledOrKept r.number r.value (length (lines_of text)) (schedules_of (pairs_of_text text)) schedules schedules'
  pub glass_write_list :
      (codes schedules text : List ℕ) (r : NumberedSize) (text' : List ℕ)
      → WriteListShown 2048 codes schedules text r text'
      → FilledOrKept r.number r.value (length (list_text codes schedules)) (list_text codes schedules) text text'
  pub glass_generate :
      (n : ℕ) (codes schedules : List ℕ) (r : Numbered) (codes' schedules' : List ℕ)
      → GenerateShown 2048 n codes schedules r codes' schedules'
      → FilledOrKept r.number r.value n (test_codes n) codes codes'
      × FilledOrKept r.number r.value n (test_schedules n) schedules schedules'

-- the check accepts a table
abbrev pub Accepted : List ℕ → Type 0
Accepted words = check_of 65537 2048 words ≡ given (code_count words ∷ total words ∷ [])

-- Demand 2, of the tables from anywhere
pub record Reading : Type 0 where
  -- the check accepts exactly the well-formed tables
  pub check_exactly : (words : List ℕ) → Accepted words ↔ WellFormed 65537 2048 words
  -- an accepted table is read back into long enough arrays: n, and its pairs in the first n places
  pub read_back :
      (words codes schedules : List ℕ) (answer : Answer) (codes' schedules' : List ℕ)
      → Accepted words → code_count words ≤ length codes → code_count words ≤ length schedules
      → PairsRead 65537 2048 words codes schedules answer codes' schedules'
      → (answer ≡ given (code_count words ∷ []))
      × (codes' ≡ over (codes_of (pairs_in words)) codes)
      × (schedules' ≡ over (schedules_of (pairs_in words)) schedules)
  -- its pairs number n, by strictly rising code
  pub pairs_number : (words : List ℕ) → Accepted words → length (codes_of (pairs_in words)) ≡ code_count words
  pub pairs_rise :
      (words : List ℕ) → Accepted words → (i : ℕ) → i + 1 < code_count words
      → get_or (codes_of (pairs_in words)) i 0 < get_or (codes_of (pairs_in words)) (i + 1) 0
  -- they are exactly the codes found in it, with their schedules
  pub pairs_exactly :
      (words : List ℕ) → Accepted words → (a s : ℕ)
      → FoundWith 65537 2048 words a s ↔ Listed (codes_of (pairs_in words)) (schedules_of (pairs_in words)) a s
  -- and every other code from 1 to 65,536 is absent
  pub found_or_absent :
      (words : List ℕ) → Accepted words → (a : ℕ) → 1 ≤ a → a ≤ 65536
      → ((s : ℕ) × FoundWith 65537 2048 words a s) ⊎ (lookup_of 65537 2048 words a ≡ absent)
  -- of any words at most eight settle the answer to a code: any others of that length that agree there give the same answer, its cell included
  pub eight_at_most : (words : List ℕ) (a : ℕ) → length (looked_at 65537 words a) ≤ 8
  pub eight_settle :
      (words other : List ℕ) (a : ℕ) → length other ≡ length words → AgreeAt (looked_at 65537 words a) words other
      → lookup_of 65537 2048 other a ≡ lookup_of 65537 2048 words a

-- Demand 2, of words that begin with the table of a list: the two-level table of source 000, with the least multipliers
pub record TwoLevelTable (codes schedules words : List ℕ) : Type 0 where
  -- as many blocks as codes
  pub blocks : code_count words ≡ length codes
  -- k is the least multiplier that keeps c at most 3n - 2; 1 for the empty list
  pub k_least :
      0 < length codes → Least (λ k. leb (cells 65537 k codes + 2) (3 * length codes)) 65537 (multiplier words)
  pub k_of_none : length codes ≡ 0 → multiplier words ≡ 1
  -- the blocks follow one another: block j has load × load cells
  pub first_start : 0 < length codes → block_start words 0 ≡ 0
  pub squares :
      (j : ℕ) → j < length codes
      → let m = load 65537 (multiplier words) (length codes) j codes in block_end words j ≡ block_start words j + m * m
  -- c is their sum, and at most 3n - 2
  pub cells_sum :
      cell_count words
      ≡ sum (λ j. let m = load 65537 (multiplier words) (length codes) j codes in m * m) (length codes)
  pub few_cells : 0 < length codes → cell_count words + 2 ≤ 3 * length codes
  -- q of every block is the least multiplier that puts no two of its codes together in one of its cells
  pub q_least :
      (j : ℕ) → j < length codes
      → let block = members 65537 (multiplier words) (length codes) j codes in
      Least (λ q. eqb (together 65537 q (length block * length block) block) 0) 65537 (block_multiplier words j)
  -- every listed code stands in its own cell, with its schedule
  pub own_cell_lem : (x : ℕ) → x < length codes → own_cell 65537 words (get_or codes x 0) < cell_count words
  pub code_there : (x : ℕ) → x < length codes → cell_code words (own_cell 65537 words (get_or codes x 0)) ≡ get_or codes x 0
  pub schedule_there :
      (x : ℕ) → x < length codes → cell_schedule words (own_cell 65537 words (get_or codes x 0)) ≡ get_or schedules x 0
  -- and every other cell is empty
  pub empty_cell :
      (i : ℕ) → i < cell_count words → ((x : ℕ) → x < length codes → own_cell 65537 words (get_or codes x 0) ≡ i → ⊥)
      → (cell_code words i ≡ 0) × (cell_schedule words i ≡ 0)

-- the words begin with the table of a list
abbrev pub BeginsWithTable : List ℕ → List ℕ → List ℕ → Type 0
BeginsWithTable codes schedules words = take (words_needed 65537 codes) words ≡ table_of 65537 codes schedules

-- Demand 2, of a built table
pub record TableOfList (codes schedules : List ℕ) : Type 0 where
  -- it is the two-level table of the list, and the only one
  pub two_level :
      (words : List ℕ) → words_needed 65537 codes ≤ length words
      → BeginsWithTable codes schedules words ↔ TwoLevelTable codes schedules words
  -- its total is 3 + 2n + 2c
  pub total_is :
      (words : List ℕ) → BeginsWithTable codes schedules words
      → words_needed 65537 codes ≡ 3 + 2 * length codes + 2 * cell_count words
  -- a code from 1 to 65,536 is found with its listed schedule in its cell, or absent, whatever words follow the table
  pub lookup_right :
      (words : List ℕ) → BeginsWithTable codes schedules words
      → (a : ℕ) → 1 ≤ a → a ≤ 65536 → lookup_of 65537 2048 words a ≡ right_answer codes schedules words a
  -- the check accepts it
  pub accepted : (words : List ℕ) → BeginsWithTable codes schedules words → Accepted words
  -- reading it back gives the pairs of the list
  pub reads_back :
      (words : List ℕ) → BeginsWithTable codes schedules words
      → (a s : ℕ) → Listed (codes_of (pairs_in words)) (schedules_of (pairs_in words)) a s ↔ Listed codes schedules a s

-- the answer to code a is settled by at most eight words of the table that was built
pub record Settled (codes schedules built : List ℕ) (a : ℕ) : Type 0 where
  pub positions : List ℕ
  pub eight : length positions ≤ 8
  pub of_table : (i : ℕ) → i < length positions → get_or positions i 0 < words_needed 65537 codes
  pub settle :
      (other : List ℕ) → length other ≡ length built → AgreeAt positions built other
      → lookup_of 65537 2048 other a ≡ right_answer codes schedules built a

-- Demand 3, for one list and one run of lent words that is long enough
pub record BuiltFrom (codes schedules words : List ℕ) : Type 0 where
  -- the build succeeds
  pub succeeds : build_of 65537 2048 codes schedules (length words) ≡ given (words_needed 65537 codes ∷ [])
  -- with the table of demand 2
  pub table : BeginsWithTable codes schedules (built_words 65537 2048 codes schedules words)
  -- its total is at most 8n - 1 (3)
  pub bound : words_needed 65537 codes ≤ enough (length codes)
  -- nothing after it is changed
  pub kept :
      drop (words_needed 65537 codes) (built_words 65537 2048 codes schedules words) ≡ drop (words_needed 65537 codes) words
  -- every other order of the same pairs, in any lent words, gives the same total and the same words up to it
  pub any_order :
      (codes' schedules' words' : List ℕ) → Valid 65537 2048 codes' schedules' → SamePairs codes schedules codes' schedules'
      → enough (length codes') ≤ length words'
      → (build_of 65537 2048 codes' schedules' (length words') ≡ given (words_needed 65537 codes ∷ []))
      × (take (words_needed 65537 codes) (built_words 65537 2048 codes' schedules' words')
      ≡ take (words_needed 65537 codes) (built_words 65537 2048 codes schedules words))
  -- at most eight words settle the right answer to each code, listed or not
  pub settled : (a : ℕ) → 1 ≤ a → a ≤ 65536 → Settled codes schedules (built_words 65537 2048 codes schedules words) a

-- Demands 2 and 3, for every valid list
pub record Building : Type 0 where
  pub tables : (codes schedules : List ℕ) → Valid 65537 2048 codes schedules → TableOfList codes schedules
  pub any_list :
      (codes schedules words : List ℕ) → Valid 65537 2048 codes schedules → enough (length codes) ≤ length words
      → BuiltFrom codes schedules words

-- Put in, take out: what an edit with this changed list answers, and leaves in the second buffer
pub record Rebuilds (changed : List Pair) (second : List ℕ) (answer : Answer) (second' : List ℕ) : Type 0 where
  -- the changed list is a valid list
  pub valid : Valid 65537 2048 (codes_of changed) (schedules_of changed)
  -- the answer is the build's answer on it, with 6 read as 54
  pub answers : answer ≡ read_as 6 54 (build_of 65537 2048 (codes_of changed) (schedules_of changed) (length second))
  -- the second buffer is what the build makes of it
  pub second_at_exit : second' ≡ built_words 65537 2048 (codes_of changed) (schedules_of changed) second
  -- and of every other list with the same pairs
  pub any_list :
      (codes schedules : List ℕ) → Valid 65537 2048 codes schedules
      → SamePairs (codes_of changed) (schedules_of changed) codes schedules
      → (answer ≡ read_as 6 54 (build_of 65537 2048 codes schedules (length second)))
      × (second' ≡ built_words 65537 2048 codes schedules second)

-- none of 51, 52, the check's refusals and 53 holds
pub record MayPutIn (words : List ℕ) (code schedule : ℕ) : Type 0 where
  pub code_range : (1 ≤ code) × (code ≤ 65536)
  pub schedule_range : (1 ≤ schedule) × (schedule ≤ 999)
  pub accepted : Accepted words
  pub room : (code_count words < 2048) ⊎ ((s : ℕ) × FoundWith 65537 2048 words code s)

-- none of 51, the check's refusals and 55 holds
pub record MayTakeOut (words : List ℕ) (code : ℕ) : Type 0 where
  pub accepted : Accepted words
  pub there : (s : ℕ) × FoundWith 65537 2048 words code s

pub record Editing : Type 0 where
  -- the changed list of put in: the new pair, and every pair of another code that the old table has
  pub put_in_list :
      (words : List ℕ) → Accepted words → (code schedule a s : ℕ)
      → Listed (codes_of (with_pair code schedule (pairs_in words))) (schedules_of (with_pair code schedule (pairs_in words))) a s
      ↔ (((a ≡ code) × (s ≡ schedule)) ⊎ ((a ≡ code → ⊥) × FoundWith 65537 2048 words a s))
  -- the changed list of take out: every pair of another code that the old table has
  pub take_out_list :
      (words : List ℕ) → Accepted words → (code a s : ℕ)
      → Listed (codes_of (without code (pairs_in words))) (schedules_of (without code (pairs_in words))) a s
      ↔ ((a ≡ code → ⊥) × FoundWith 65537 2048 words a s)
  -- put in, where none of 51, 52, the check's refusals and 53 holds
  pub put_in :
      (words : List ℕ) (code schedule : ℕ) (second : List ℕ) (answer : Answer) (second' : List ℕ)
      → MayPutIn words code schedule → Inserted 65537 2048 words code schedule second answer second'
      → Rebuilds (with_pair code schedule (pairs_in words)) second answer second'
  -- take out, where none of 51, the check's refusals and 55 holds
  pub take_out :
      (words : List ℕ) (code : ℕ) (second : List ℕ) (answer : Answer) (second' : List ℕ)
      → MayTakeOut words code → Removed 65537 2048 words code second answer second'
      → Rebuilds (without code (pairs_in words)) second answer second'
  -- in the new table the code has the new schedule, or is absent, and every other code has the schedule of the old one, or is absent as there
  pub put_in_lookup :
      (words : List ℕ) (code schedule : ℕ) (second : List ℕ) (total : ℕ) (second' : List ℕ)
      → MayPutIn words code schedule → Inserted 65537 2048 words code schedule second (given (total ∷ [])) second'
      → (a : ℕ) → 1 ≤ a → a ≤ 65536
      → schedule_alone (lookup_of 65537 2048 second' a)
      ≡ cond (eqb a code) (given (schedule ∷ [])) (schedule_alone (lookup_of 65537 2048 words a))
  pub take_out_lookup :
      (words : List ℕ) (code : ℕ) (second : List ℕ) (total : ℕ) (second' : List ℕ)
      → MayTakeOut words code → Removed 65537 2048 words code second (given (total ∷ [])) second'
      → (a : ℕ) → 1 ≤ a → a ≤ 65536
      → schedule_alone (lookup_of 65537 2048 second' a) ≡ cond (eqb a code) absent (schedule_alone (lookup_of 65537 2048 words a))

-- Document 02, Change 1: suppliers' lists as text
pub record Texts : Type 0 where
  -- an empty text is the empty list
  pub empty : TextOf [] []
  -- a text is refused by 71 exactly if it is no text of a list
  pub faulty_exactly :
      (text : List ℕ) (codes schedules : ℕ)
      → ((line : ℕ) × (read_list_of text codes schedules ≡ refused 71 line)) ↔ ((pairs : List Pair) → TextOf pairs text → ⊥)
  -- with the first of its lines that is not that of a pair
  pub first_faulty :
      (text : List ℕ) (codes schedules line : ℕ) → read_list_of text codes schedules ≡ refused 71 line
      → (line < length (lines_of text))
      × ((i : ℕ) → i < line → (r : Pair) × Line (get_or (lines_of text) i []) r)
      × ((r : Pair) → Line (get_or (lines_of text) line []) r → ⊥)
  -- a text of a list is refused by 72, with the number of its pairs, exactly if either array has fewer places
  pub too_many :
      (pairs : List Pair) (text : List ℕ) (codes schedules : ℕ) → TextOf pairs text
      → (read_list_of text codes schedules ≡ refused 72 (length pairs)) ↔ ((codes < length pairs) ⊎ (schedules < length pairs))
  -- otherwise it is read: the number of its pairs, and the pairs, in their order, in the first places
  pub reads :
      (pairs : List Pair) (text codes schedules : List ℕ) (answer : Answer) (codes' schedules' : List ℕ) → TextOf pairs text
      → length pairs ≤ length codes → length pairs ≤ length schedules → ListRead text codes schedules answer codes' schedules'
      → (answer ≡ given (length pairs ∷ [])) × (codes' ≡ over (codes_of pairs) codes) × (schedules' ≡ over (schedules_of pairs) schedules)
  -- there is one text for one list, and one list for one text
  pub one_text : (pairs : List Pair) (text other : List ℕ) → TextOf pairs text → TextOf pairs other → text ≡ other
  pub one_list : (pairs others : List Pair) (text : List ℕ) → TextOf pairs text → TextOf others text → pairs ≡ others
  -- a list of at most 2,048 pairs, any words, is written into enough bytes, 22 for each pair: its text
  pub writes :
      (codes schedules text : List ℕ) (answer : Answer) (text' : List ℕ) → length schedules ≡ length codes → length codes ≤ 2048
      → 22 * length codes ≤ length text → ListWritten 2048 codes schedules text answer text'
      → (answer ≡ given (length (list_text codes schedules) ∷ [])) × (text' ≡ over (list_text codes schedules) text)
  pub writes_text :
      (codes schedules : List ℕ) → AllWords codes → AllWords schedules → TextOf (paired codes schedules) (list_text codes schedules)
  -- a list that is written is read again as the same list, in its order, into any arrays that are long enough
  pub written_read :
      (codes schedules text : List ℕ) (bytes : ℕ) (text' : List ℕ) → AllWords codes → AllWords schedules
      → ListWritten 2048 codes schedules text (given (bytes ∷ [])) text'
      → (codes₀ schedules₀ : List ℕ) (answer : Answer) (codes' schedules' : List ℕ)
      → length codes ≤ length codes₀ → length codes ≤ length schedules₀
      → ListRead (take bytes text') codes₀ schedules₀ answer codes' schedules'
      → (answer ≡ given (length codes ∷ [])) × (codes' ≡ over codes codes₀) × (schedules' ≡ over schedules schedules₀)
  -- a text that is read is written again as the same bytes, into any bytes that are enough
  pub read_written :
      (text codes schedules : List ℕ) (n : ℕ) (codes' schedules' : List ℕ)
      → ListRead text codes schedules (given (n ∷ [])) codes' schedules' → n ≤ 2048
      → (text₀ : List ℕ) (answer : Answer) (text' : List ℕ) → length text ≤ length text₀
      → ListWritten 2048 (take n codes') (take n schedules') text₀ answer text'
      → (answer ≡ given (length text ∷ [])) × (text' ≡ over text text₀)
  -- a text of a valid list, read and built, gives the table of that list
  pub read_built :
      (pairs : List Pair) (text codes schedules : List ℕ) (n : ℕ) (codes' schedules' words : List ℕ) (answer : Answer) (words' : List ℕ)
      → TextOf pairs text → Valid 65537 2048 (codes_of pairs) (schedules_of pairs)
      → ListRead text codes schedules (given (n ∷ [])) codes' schedules' → enough n ≤ length words
      → Built 65537 2048 (take n codes') (take n schedules') words answer words'
      → (answer ≡ given (words_needed 65537 (codes_of pairs) ∷ [])) × BeginsWithTable (codes_of pairs) (schedules_of pairs) words'
  -- the program that makes a table file makes of it the file whose words are that table
  pub made_file :
      (pairs : List Pair) (text : List ℕ) → TextOf pairs text → Valid 65537 2048 (codes_of pairs) (schedules_of pairs)
      → words_of (made_of 65537 2048 text) ≡ table_of 65537 (codes_of pairs) (schedules_of pairs)

-- Document 02, Change 2: a studio's own test load
pub record TestLoads : Type 0 where
  -- a load of any length up to 65,536 is a valid list: its codes are from 1 to 65,536 and differ
  pub valid : (limit n : ℕ) → n ≤ limit → n ≤ 65536 → Valid 65537 limit (test_codes n) (test_schedules n)
  -- as 75 generates them all
  pub every_code : (a : ℕ) → 1 ≤ a → a ≤ 65536 → (i : ℕ) × (i < 65536) × (test_code i ≡ a)
  -- a load begins with every shorter one
  pub begins :
      (m n : ℕ) → m ≤ n → (take m (test_codes n) ≡ test_codes m) × (take m (test_schedules n) ≡ test_schedules m)
  -- a length is refused by 73 exactly if it is above 2,048, or above either array's
  pub too_long :
      (n codes schedules : ℕ)
      → (generate_of 2048 n codes schedules ≡ refused 73 0) ↔ ((2048 < n) ⊎ ((codes < n) ⊎ (schedules < n)))
  -- otherwise the load stands in the first places
  pub generates :
      (n : ℕ) (codes schedules : List ℕ) (answer : Answer) (codes' schedules' : List ℕ)
      → n ≤ 2048 → n ≤ length codes → n ≤ length schedules → LoadGenerated 2048 n codes schedules answer codes' schedules'
      → (answer ≡ given (n ∷ [])) × (codes' ≡ over (test_codes n) codes) × (schedules' ≡ over (test_schedules n) schedules)
  -- every load can be built: demands 2 and 3 hold of it
  pub tables : (n : ℕ) → n ≤ 2048 → TableOfList (test_codes n) (test_schedules n)
  pub any_load : (n : ℕ) (words : List ℕ) → n ≤ 2048 → enough n ≤ length words → BuiltFrom (test_codes n) (test_schedules n) words
  -- and a load that was generated, built from the places that it fills, gives its table
  pub generated_built :
      (n : ℕ) (codes schedules codes' schedules' words : List ℕ) (answer : Answer) (words' : List ℕ)
      → LoadGenerated 2048 n codes schedules (given (n ∷ [])) codes' schedules' → enough n ≤ length words
      → Built 65537 2048 (take n codes') (take n schedules') words answer words'
      → (answer ≡ given (words_needed 65537 (test_codes n) ∷ [])) × BeginsWithTable (test_codes n) (test_schedules n) words'

-- Document 02, Change 3: files read by the word
pub record Files : Type 0 where
  -- a word for each four bytes
  pub number : (bytes : List ℕ) → length (words_of bytes) ≡ length bytes / 4
  -- it is made of them, least byte first
  pub least_first :
      (bytes : List ℕ) (i : ℕ) → i < length bytes / 4
      → get_or (words_of bytes) i 0
      ≡ get_or bytes (4 * i) 0 + 256 * get_or bytes (4 * i + 1) 0 + 65536 * get_or bytes (4 * i + 2) 0 + 16777216 * get_or bytes (4 * i + 3) 0
  -- the words are read into the first of any lent words that are enough
  pub reads :
      (bytes words : List ℕ) (n : ℕ) (words' : List ℕ) → length bytes / 4 ≤ length words → WordsFilled bytes words n words'
      → (n ≡ length bytes / 4) × (words' ≡ over (words_of bytes) words)
  -- each undoes the other: words, made bytes and words again, are the same, and so are bytes that are whole words, made words and bytes again
  pub words_of_bytes : (words : List ℕ) → AllWords words → words_of (bytes_of words) ≡ words
  pub bytes_of_words : (bytes : List ℕ) → AllBytes bytes → length bytes % 4 ≡ 0 → bytes_of (words_of bytes) ≡ bytes
  -- words that were written as bytes are read again as the same words
  pub written_read :
      (words bytes : List ℕ) (n : ℕ) (bytes' : List ℕ) → AllWords words → 4 * length words ≤ length bytes → BytesFilled words bytes n bytes'
      → (words₀ : List ℕ) (m : ℕ) (words' : List ℕ) → length words ≤ length words₀ → WordsFilled (take n bytes') words₀ m words'
      → (m ≡ length words) × (words' ≡ over words words₀)
  -- bytes that were read as words are written again as the same bytes
  pub read_written :
      (bytes words : List ℕ) (n : ℕ) (words' : List ℕ) → AllBytes bytes → length bytes % 4 ≡ 0 → length bytes / 4 ≤ length words
      → WordsFilled bytes words n words'
      → (bytes₀ : List ℕ) (m : ℕ) (bytes' : List ℕ) → length bytes ≤ length bytes₀ → BytesFilled (take n words') bytes₀ m bytes'
      → (m ≡ length bytes) × (bytes' ≡ over bytes bytes₀)
  -- the program that lists prints of a file of words what the check says of these words
  pub lists :
      (words : List ℕ) → AllWords words → length words ≤ 16384
      → listing_of 65537 2048 (bytes_of words) ≡ text_of (check_of 65537 2048 words) words

-- Document 02, Change 4: where the glass lies
pub record Cells : Type 0 where
  -- in any words, checked or not, a code that is found stands with its schedule in the cell that is answered, one of the c
  pub stands_there :
      (words : List ℕ) (a s i : ℕ) → lookup_of 65537 2048 words a ≡ given (s ∷ i ∷ [])
      → (i < cell_count words) × (cell_code words i ≡ a) × (cell_schedule words i ≡ s)
  -- which is its own cell, counted over the whole table
  pub own_cell_lem : (words : List ℕ) (a s i : ℕ) → lookup_of 65537 2048 words a ≡ given (s ∷ i ∷ []) → i ≡ own_cell 65537 words a
  -- so different codes are found in different cells
  pub apart :
      (words : List ℕ) (a b s t i : ℕ) → lookup_of 65537 2048 words a ≡ given (s ∷ i ∷ []) → lookup_of 65537 2048 words b ≡ given (t ∷ i ∷ [])
      → a ≡ b
  -- in an accepted table the cell of a code is the one where the pair that is read back stands
  pub where_read :
      (words : List ℕ) → Accepted words → (a s i : ℕ)
      → (lookup_of 65537 2048 words a ≡ given (s ∷ i ∷ []))
      ↔ (Listed (codes_of (pairs_in words)) (schedules_of (pairs_in words)) a s × (i < cell_count words) × (cell_code words i ≡ a))

-- Document 02, Change 5: holds decide the panel
pub record Panels : Type 0 where
  -- a panel answers s and cell i exactly if it has at most 64 codes, the holds are right, and a code found with s in i decides
  pub decided :
      (words holds codes : List ℕ) (s i : ℕ)
      → (panel_of 65537 2048 words holds codes ≡ given (s ∷ i ∷ []))
      ↔ ((length codes ≤ 64) × RightHolds holds × DecidedBy 65537 2048 words holds codes s i)
  -- a panel of 1 to 64 codes is refused by 74 exactly if the holds are not right, whatever the words and the codes
  pub bad_holds_lem :
      (words holds codes : List ℕ) → 1 ≤ length codes → length codes ≤ 64
      → (panel_of 65537 2048 words holds codes ≡ refused 74 0) ↔ (RightHolds holds → ⊥)
  -- and by 75 with an index exactly if the panel meets a schedule there that is not in use
  pub not_in_use :
      (words holds codes : List ℕ) (i : ℕ)
      → (panel_of 65537 2048 words holds codes ≡ refused 75 i)
      ↔ ((length codes ≤ 64) × RightHolds holds × ((s : ℕ) × Met 65537 2048 words holds codes i s × (hold_of holds s ≡ 0)))
  -- the holds of schedules that are not met do not matter
  pub met :
      (words holds others codes : List ℕ) → RightHolds holds → RightHolds others
      → ((i s : ℕ) → Met 65537 2048 words holds codes i s → hold_of others s ≡ hold_of holds s)
      → panel_of 65537 2048 words others codes ≡ panel_of 65537 2048 words holds codes
  -- with holds that all are in use and rise with the number, a panel answers as it did without them
  pub by_number :
      (words holds codes : List ℕ) → RightHolds holds → Rising holds
      → panel_of 65537 2048 words holds codes ≡ panel_by_number 65537 2048 words codes
