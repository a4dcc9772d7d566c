-- Words that begin with the table of a valid list are well-formed: its sizes keep the bounds, its blocks follow one another, and each
-- cell is empty or holds a listed code that is its own.
use Prim.Native.Nat.{ℕ, suc, ◌+◌, ◌*◌, ◌-◌, ◌<◌, ◌≤◌}
use native.Mathlib.Nat.{add_assoc, mul-pos}
use native.Mathlib.Omega.{arith}
use mathlib.Core.List.{List}
use mathlib.Core.Logic.{◌↔◌, ◌⊎◌, inl, inr}
use mathlib.Core.Path.{◌≡◌, sym, ap, ◌∙◌}
use lib.ListN.{length, get_or}
use Rattle.hash.specs.Hash.{hash_of, load, members}
use Rattle.hash.specs.Theorems.{Prime}
use Rattle.hash.proofs.Counting.{hash_lt}
use Rattle.hash.proofs.Members.{members_codes}
use Rattle.table.specs.Words.{code_count, cell_count, block_start, block_end, block_multiplier, cell_code, cell_schedule, block_of, own_cell}
use Rattle.prelude.specs.Tabulate.{tabulate}
use Rattle.table.specs.TwoLevel.{blocks_multiplier, cells_multiplier, start_of, held_at, cells_of}
use Rattle.prelude.proofs.Tabulate.{tabulate_ext, part_tabulate}
use Rattle.table.proofs.Front.{size_of, block_q, start_first, start_next, start_rises, start_last, Fronted, block_is, size_is}
use Rattle.table.proofs.Chosen.{cells_least, blocks_range, few_cells, no_cells}
use Rattle.table.proofs.Own.{listed_load}
use Rattle.table.proofs.Contents.{Tabled, Filled, Empty, filled_or_empty, cells_of_is, needed_is}
use Rattle.audit.specs.Check.{codes_in, block_codes, all_codes}
use Rattle.audit.specs.WellFormed.{WellFormed}
use Rattle.search.proofs.BlockCells.{held_codes}
use Rattle.lists.specs.Valid.{Valid}
use Rattle.demands.proofs.BuildingCells.{block_full, table_full}

module _
    {p limit : ℕ} (prime : Prime p) (codes schedules : List ℕ) (valid : Valid p limit codes schedules) (words : List ℕ)
    (t : Tabled p codes schedules words)
  where
    abbrev k : ℕ
    k = blocks_multiplier p codes

    abbrev f : Fronted p k codes words
    f = t.front

    -- ---- the runs of codes

    cell_lt : (j i : ℕ) → j < length codes → i < size_of p k codes j → start_of p k codes j + i < cells_of p codes
    cell_lt j i h l =
        omega
        (arith, start_next p k codes j, start_rises p k codes (suc j) (length codes) h, start_last p k codes, cells_of_is p codes)

    end_le : (j : ℕ) → j < length codes → block_end words j ≤ cell_count words
    end_le j h =
        omega
        (arith, f.ends j h, start_rises p k codes (suc j) (length codes) h, start_last p k codes, cells_of_is p codes, t.celled)

    code_at :
        (j i : ℕ) → j < length codes → i < size_of p k codes j
        → let block = members p k (length codes) j codes in
        get_or words (3 + 2 * code_count words + block_start words j + i) 0 ≡ held_at (hash_of p (block_q p k codes j) (size_of p k codes j)) block block i
    code_at j i h l =
        ap (λ (m : ℕ). get_or words m 0) (add_assoc (3 + 2 * code_count words) (block_start words j) i)
        ∙ ap (λ (s : ℕ). cell_code words (s + i)) (f.starts j h)
        ∙ t.code_held (start_of p k codes j + i) (cell_lt j i h l)
        ∙ held_codes f j h i l

    block_count : (j : ℕ) → j < length codes → codes_in (block_codes words j) ≡ load p k (length codes) j codes
    block_count j h =
        ap codes_in
        (part_tabulate words (3 + 2 * code_count words + block_start words j) (block_end words j - block_start words j)
        (omega (arith, end_le j h, f.starts j h, f.ends j h, start_next p k codes j, t.totals, t.whole))
        ∙ ap (tabulate (λ i. get_or words (3 + 2 * code_count words + block_start words j + i) 0)) (size_is f j h)
        ∙ tabulate_ext _ _ (size_of p k codes j) (λ i l. code_at j i h l))
        ∙ block_full prime k codes valid.codes_valid j

    all_count : codes_in (all_codes words) ≡ code_count words
    all_count =
        ap codes_in
        (part_tabulate words (3 + 2 * code_count words) (cell_count words) (omega (arith, t.totals, t.whole))
        ∙ ap (tabulate (cell_code words)) t.celled
        ∙ tabulate_ext (cell_code words) (held_at (own_cell p words) codes codes) (cells_of p codes) t.code_held
        ∙ ap (tabulate (held_at (own_cell p words) codes codes)) (cells_of_is p codes))
        ∙ table_full prime k codes valid.codes_valid words f
        ∙ sym f.counts

    -- ---- one cell

    cell : (i : ℕ) → i < cell_count words → ((x : ℕ) × Filled p codes schedules words i x) ⊎ Empty words i
    cell i h =
        filled_or_empty prime codes schedules valid.codes_valid valid.parallel words t i (omega (arith, t.celled))

    code_below : (i : ℕ) → i < cell_count words → cell_code words i < p
    code_below i h =
        elim (cell i h) [
          | inl r ↦ omega (arith, r.1.code, valid.codes_valid.below r.0 r.1.in_list)
          | inr e ↦ omega (arith, e.no_code, prime.two_le)
        ]

    schedule_low : (i : ℕ) → i < cell_count words → cell_schedule words i ≤ 999
    schedule_low i h =
        elim (cell i h) [
          | inl r ↦ omega (arith, r.1.schedule, valid.schedules_to_999 r.0 r.1.in_list)
          | inr e ↦ omega (arith, e.no_schedule)
        ]

    both : (i : ℕ) → i < cell_count words → (cell_code words i ≡ 0) ↔ (cell_schedule words i ≡ 0)
    both i h =
        elim (cell i h) [
          | inl r ↦ (
            λ z. absurd (omega (arith, r.1.code, valid.codes_valid.positive r.0 r.1.in_list)),
            λ z. absurd (omega (arith, r.1.schedule, valid.schedules_from_one r.0 r.1.in_list)),
          )
          | inr e ↦ (λ z. e.no_schedule, λ z. e.no_code)
        ]

    own_cell_lem : (i : ℕ) → i < cell_count words → 0 < cell_code words i → own_cell p words (cell_code words i) ≡ i
    own_cell_lem i h pos =
        elim (cell i h) [
          | inl r ↦ ap (own_cell p words) r.1.code ∙ r.1.its_own
          | inr e ↦ absurd (omega (arith, e.no_code))
        ]

    listed_has : (x : ℕ) → x < length codes → block_start words (block_of p words (get_or codes x 0)) < block_end words (block_of p words (get_or codes x 0))
    listed_has x h =
        let a : ℕ = get_or codes x 0 in
        let j : ℕ = hash_of p k (length codes) a in
        let l : j < length codes = hash_lt p k (length codes) a (omega arith) in
        let some : 0 < load p k (length codes) j codes = listed_load p k codes x h in
        rw (block_is f a) (omega (arith, f.starts j l, f.ends j l, start_next p k codes j, mul-pos some some))

    has : (i : ℕ) → i < cell_count words → 0 < cell_code words i
        → block_start words (block_of p words (cell_code words i)) < block_end words (block_of p words (cell_code words i))
    has i h pos =
        elim (cell i h) [
          | inl r ↦ rw r.1.code (listed_has r.0 r.1.in_list)
          | inr e ↦ absurd (omega (arith, e.no_code))
        ]

    -- ---- one block

    block_in : (j : ℕ) → j < code_count words → j < length codes
    block_in j l = omega (arith, f.counts)

    rises : (j : ℕ) → j + 1 < code_count words → block_start words j ≤ block_start words (j + 1)
    rises j l =
        omega (
          arith,
          f.starts j (block_in j (omega arith)),
          f.starts (j + 1) (block_in (j + 1) l),
          start_rises p k codes j (j + 1) (omega arith),
        )

    start_le : (j : ℕ) → j < code_count words → block_start words j ≤ cell_count words
    start_le j l =
        let h : j < length codes = block_in j l in
        omega (arith, end_le j h, f.starts j h, f.ends j h, start_next p k codes j)

    multiplier_in : (j : ℕ) → j < code_count words → (1 ≤ block_multiplier words j) × (block_multiplier words j < p)
    multiplier_in j l =
        let block : List ℕ = members p k (length codes) j codes in
        let q = cells_least prime block (members_codes p k (length codes) j codes valid.codes_valid) in
        let e : block_multiplier words j ≡ cells_multiplier p block = f.block_by j (block_in j l) in
        (omega (arith, q.from_one), omega (arith, q.below))

    squared :
        (j : ℕ) → j < code_count words
        → block_end words j ≡ block_start words j + codes_in (block_codes words j) * codes_in (block_codes words j)
    squared j l =
        let h : j < length codes = block_in j l in
        omega (arith, f.starts j h, f.ends j h, start_next p k codes j, ap (λ (m : ℕ). m * m) (block_count j h))

    pub well_formed : WellFormed p limit words
    well_formed =
        let range = blocks_range prime codes valid.codes_valid in
        record {
          three = omega (arith, t.whole, needed_is p codes);
          few_codes = omega (arith, f.counts, valid.few);
          few_cells = λ some. omega (arith, f.counts, t.celled, few_cells prime codes valid.codes_valid (omega (arith, f.counts)));
          no_cells = λ none. t.celled ∙ no_cells p codes (sym f.counts ∙ none);
          in_range = (omega (arith, f.by, range.0), omega (arith, f.by, range.1));
          whole = omega (arith, t.totals, t.whole);
          first_start = λ some. f.starts 0 (omega (arith, f.counts)) ∙ start_first p k codes;
          rising = rises;
          within = start_le;
          block_in_range = multiplier_in;
          code_in_range = code_below;
          schedule_in_range = schedule_low;
          both_or_none = both;
          has_cells = has;
          own = own_cell_lem;
          square = squared;
          all_codes = all_count;
        }
