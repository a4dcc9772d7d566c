-- The table of a valid list: its total, the words that are kept or written, and what the search for k leaves.
use Prim.Native.Nat.{ℕ, ◌+◌, ◌*◌, ◌<◌, ◌≤◌}
use mathlib.Core.List.{List, [], ◌∷◌, ◌++◌}
use mathlib.Core.Path.{◌≡◌, refl, sym, ap, ◌∙◌}
use native.Mathlib.Omega.{arith}
use borrow.Author.Tests.{lt-ltb, le-ltb}
use lib.ListN.{length, get_or, drop, drop_of_length-le}
use Rattle.hash.specs.Hash.{load, members, sum, cells}
use Rattle.hash.proofs.LeastLaws.{least_unique}
use Rattle.prelude.specs.Answers.{Answer, given, refused, filled, into_room}
use Rattle.table.specs.Words.{block_of, cell_in, own_cell}
use Rattle.prelude.specs.Pairs.{paired, value_where}
use Rattle.prelude.specs.Tabulate.{tabulate}
use Rattle.table.specs.TwoLevel.{blocks_multiplier, start_of, held_at, front_with, front_of, table_with, table_of, cells_of, words_needed}
use Rattle.prelude.proofs.Tabulate.{tabulate_at}
use Rattle.table.proofs.Chosen.{few_cells}
use Rattle.table.proofs.Contents.{needed_is, table_length}
use Rattle.search.specs.code.Searchable.{Searchable}
use Rattle.prelude.specs.Limits.{room}
use Rattle.search.specs.code.Blocks.{LeastBlocks, Blocked}
use Rattle.search.proofs.LeastCells.{one_cell, cells_one}
use Rattle.writer.specs.code.Grouping.{BlockOfEach, Loads}
use Rattle.writer.specs.code.Writing.{Writable}
use Rattle.writer.specs.code.Valid.{ValidBuilt, KnownBuilt, EmptyBuilt, one_table, OneBuilt}

-- the same cells as a part of a sum
pub least_wide : {p k c r : ℕ} {codes : List ℕ} → LeastBlocks p codes k c → r ≡ c → LeastBlocks p codes k r
least_wide f e = record { multiplier = f.multiplier; cells = e ∙ f.cells }

module _ {p k c : ℕ} {codes : List ℕ} (f : LeastBlocks p codes k c) where
  cells_is : c ≡ cells_of p codes
  unfolding cells_of
  cells_is = f.cells ∙ ap (λ (q : ℕ). cells p q codes) f.multiplier

  abbrev total : ℕ
  total = 3 + 2 * length codes + 2 * c

  total_is : total ≡ words_needed p codes
  total_is = omega (arith, needed_is p codes, cells_is)

  module _ (s : Searchable p codes) (some : 0 < length codes) where
    few : c ≤ 3 * length codes
    few = omega (arith, cells_is, few_cells s.prime codes s.valid some)

    pub total_fits : total < 4294967296
    total_fits = omega (arith, few, s.few)

    pub valid_writable :
        (schedules : List ℕ) → length schedules ≡ length codes
        → Writable (record { prime = p; multiplier = k; codes = length codes; cells = c }) codes schedules
    valid_writable schedules parallel =
        record { searchable = s; codes_are = refl; cells_are = f.cells; few_cells = few; parallel = parallel }

  module _ (schedules words : List ℕ) where
    pub too_short : length words < total → ValidBuilt p codes schedules words total words
    too_short l =
        let e : into_room 6 (words_needed p codes) (length words) ≡ refused 6 total =
        rw (← total_is, lt-ltb (length words) total l) in
        record { totals = total_is; words_at_exit = sym (ap (λ (r : Answer). filled r (table_of p codes schedules) words) e) }

    table_is : table_with p (front_with p k codes) c codes schedules ≡ table_of p codes schedules
    unfolding table_of front_of
    table_is = rw (f.multiplier, cells_is)

    pub valid_written :
        (new : List ℕ) → total ≤ length words → new ≡ table_with p (front_with p k codes) c codes schedules
        → ValidBuilt p codes schedules words total (new ++ drop total words)
    valid_written new l is =
        let e : into_room 6 (words_needed p codes) (length words) ≡ given (total ∷ []) =
        rw (← total_is, le-ltb (length words) total l) in
        let size : length (table_of p codes schedules) ≡ total = table_length p codes schedules ∙ sym total_is in
        record {
          totals = total_is;
          words_at_exit =
              ap (λ (t : List ℕ). t ++ drop total words) (is ∙ table_is)
              ∙ ap (λ (m : ℕ). table_of p codes schedules ++ drop m words) (sym size)
              ∙ sym (ap (λ (r : Answer). filled r (table_of p codes schedules) words) e);
        }

-- ---- a table that is known beforehand

pub known_short : (table words : List ℕ) → length words < length table → KnownBuilt table words (length table) words
known_short table words l = record { totals = refl; words_at_exit = rw (lt-ltb (length words) (length table) l) refl }

pub known_written : (table words : List ℕ) → length table ≤ length words → KnownBuilt table words (length table) (table ++ drop (length table) words)
known_written table words l = record { totals = refl; words_at_exit = rw (le-ltb (length words) (length table) l) refl }

-- ---- the empty list

module _ (p : ℕ) where
  pub none_least : LeastBlocks p [] 1 0
  unfolding blocks_multiplier cells sum
  none_least = record { multiplier = refl; cells = refl }

  pub empty_valid : {words words' : List ℕ} {total : ℕ} → KnownBuilt (0 ∷ 0 ∷ 1 ∷ []) words total words' → ValidBuilt p [] [] words total words'
  unfolding table_with front_with tabulate cells sum
  empty_valid {words} b =
      let needed : words_needed p [] ≡ 3 = sym (total_is none_least) in
      let table : table_of p [] [] ≡ 0 ∷ 0 ∷ 1 ∷ [] = sym (table_is none_least [] words) in
      record { totals = b.totals ∙ sym needed; words_at_exit = rw (needed, table) b.words_at_exit }

pub empty_built :
    {p : ℕ} {codes schedules words words' : List ℕ} {total : ℕ} → length codes ≡ 0 → length schedules ≡ length codes → EmptyBuilt words total words'
    → ValidBuilt p codes schedules words total words'
empty_built {p} {codes} {schedules} none same built =
    rw (drop_of_length-le codes {i = 0} (omega arith), drop_of_length-le schedules {i = 0} (omega arith)) (built p)

-- ---- one pair

pub one_built : {a v : ℕ} {words words' : List ℕ} {total : ℕ} → KnownBuilt (one_table a v) words total words' → OneBuilt a v words total words'
one_built b = record { totals = b.totals; words_at_exit = b.words_at_exit }

-- the least table of its list
module _ {p a : ℕ} (s : Searchable p (a ∷ [])) where
  one_cells : cells p 1 (a ∷ []) ≡ 1
  unfolding cells sum load
  one_cells = rw (one_cell p 1 a)

  one_least : LeastBlocks p (a ∷ []) 1 1
  unfolding blocks_multiplier
  one_least =
      record {
        multiplier = sym (least_unique _ p 1 (record { from_one = omega arith; below = omega (arith, s.prime.two_le); passes = rw one_cells; least = λ j f l. absurd (omega arith) }));
        cells = sym one_cells;
      }

  one_front : front_with p 1 (a ∷ []) ≡ 1 ∷ 1 ∷ 1 ∷ 0 ∷ 1 ∷ []
  unfolding front_with tabulate start_of sum members
  one_front = rw (one_cell p 1 a, one_cells, (cells_one s).0)

  one_own : own_cell p (1 ∷ 1 ∷ 1 ∷ 0 ∷ 1 ∷ []) a ≡ 0
  unfolding own_cell block_of cell_in
  one_own = rw (one_cell p 1 a) (omega (arith, one_cell p 1 a))

  one_table_lem : (v : ℕ) → one_table a v ≡ table_with p (front_with p 1 (a ∷ [])) 1 (a ∷ []) (v ∷ [])
  unfolding table_with tabulate held_at paired value_where
  one_table_lem v = rw (one_front, one_own)

  pub one_valid : {v total : ℕ} {words words' : List ℕ} → OneBuilt a v words total words' → ValidBuilt p (a ∷ []) (v ∷ []) words total words'
  one_valid {v} {total} {words} b =
      let needed : words_needed p (a ∷ []) ≡ 7 = sym (total_is one_least) in
      let table : table_of p (a ∷ []) (v ∷ []) ≡ one_table a v = sym (one_table_lem v ∙ table_is one_least (v ∷ []) words) in
      record { totals = b.totals ∙ sym needed; words_at_exit = rw (needed, table) b.words_at_exit }

-- ---- what the search for k leaves

module _ {p k : ℕ} {codes blocks loads : List ℕ} (b : Blocked p k codes blocks loads) where
  pub blocked_blocks : length codes ≤ room → length blocks ≡ length codes → BlockOfEach p k codes blocks
  blocked_blocks few same =
      record { few = few; each = same; blocks_are = λ i l. ap (λ (s : List ℕ). get_or s i 0) b.blocks_are ∙ tabulate_at _ (length codes) i l }

  pub blocked_loads : length loads ≡ length codes → Loads p k codes loads
  blocked_loads same =
      record { each = same; loads_are = λ j l. ap (λ (s : List ℕ). get_or s j 0) b.loads_are ∙ tabulate_at _ (length codes) j l }
