-- The pairs read from a well-formed table: each cell that holds a code has one, and a code stands in its own cell only, so the codes are
-- different. They are exactly the codes that a lookup finds, with their schedules.
use Prim.Native.Nat.{ℕ, ◌+◌, ◌<◌, ◌≤◌}
use native.Mathlib.Decide.{dec_lt}
use native.Mathlib.Nat.{pos_of_ne-zero}
use native.Mathlib.Omega.{arith}
use mathlib.Core.List.{List, [], ◌∷◌, Memᴰ}
use mathlib.Core.Logic.{◌⊎◌, inl, inr, ⊎_elim}
use mathlib.Core.Path.{◌≡◌, sym, ap, ◌∙◌}
use borrow.Author.Tests.{eqb-true, eqb-false}
use lib.Dec.{eqb}
use lib.ListN.{length, get_or}
use Rattle.hash.specs.Hash.{Codes}
use Rattle.prelude.specs.Answers.{given, first_of}
use Rattle.table.specs.Words.{code_count, cell_count, cell_code, cell_schedule, own_cell}
use Rattle.lookup.specs.Lookup.{lookup_of}
use Rattle.prelude.proofs.First.{First, first_is}
use Rattle.audit.specs.Check.{all_codes}
use Rattle.audit.specs.WellFormed.{WellFormed}
use Rattle.prelude.specs.Pairs.{Pair, codes_of}
use Rattle.reader.specs.Pairs.{all_schedules, stored, pairs_in}
use Rattle.audit.proofs.Lookups.{lookup_range, lookup_found, lookup_absent}
use Rattle.reader.proofs.Cells.{codes_length, schedules_length, code_at, schedule_at}
use Rattle.reader.proofs.Stored.{InCell, stored_length, stored_in, in_stored, stored_codes}
use Rattle.sorting.proofs.Rising.{rising_length, rising_mem, rising_codes, rising_strict}

-- the pairs of the cells that hold a code
abbrev pub in_cells : List ℕ → List Pair
in_cells words = stored (all_codes words) (all_schedules words)

-- a cell of the table holds code a, or none does
cell_of :
    (words : List ℕ) (a : ℕ)
    → ((i : ℕ) × (i < cell_count words) × (cell_code words i ≡ a)) ⊎ ((i : ℕ) → i < cell_count words → cell_code words i ≡ a → ⊥)
cell_of words a =
    let first : ℕ = first_of (cell_count words) (λ i. eqb (cell_code words i) a) in
    let f : First (cell_count words) (λ i. eqb (cell_code words i) a) first = first_is (cell_count words) (λ i. eqb (cell_code words i) a) in
    elim (dec_lt first (cell_count words)) [
      | yes l ↦ inl (first, l, eqb-true (cell_code words first) a (f.holds l))
      | no ge ↦ inr (λ i l. eqb-false (cell_code words i) a (f.below i (omega arith)))
    ]

module _ {p limit : ℕ} {words : List ℕ} (f : WellFormed p limit words) where
  same_length : length (all_codes words) ≡ length (all_schedules words)
  same_length = codes_length words f.whole ∙ sym (schedules_length words f.whole)

  cells_length : length (in_cells words) ≡ code_count words
  cells_length = stored_length (all_codes words) (all_schedules words) same_length ∙ f.all_codes

  -- a code stands in its own cell, so not in two
  cells_codes : Codes p (codes_of (in_cells words))
  cells_codes = stored_codes (all_codes words) (all_schedules words) same_length below apart
    where
      below : (i : ℕ) → i < length (all_codes words) → get_or (all_codes words) i 0 < p
      below i l =
          let l : i < cell_count words = rw (codes_length words f.whole) at l in
          rw (code_at words i l) (f.code_in_range i l)

      apart :
          (i j : ℕ) → i < j → j < length (all_codes words) → 0 < get_or (all_codes words) i 0
          → get_or (all_codes words) i 0 ≡ get_or (all_codes words) j 0 → ⊥
      apart i j lt l pos e =
          let l : j < cell_count words = rw (codes_length words f.whole) at l in
          let at_i = code_at words i (omega arith) in
          let at_j = code_at words j l in
          omega (
            arith,
            f.own i (omega arith) (omega (arith, at_i)),
            f.own j l (omega (arith, at_i, at_j)),
            ap (own_cell p words) (sym at_i ∙ e ∙ at_j),
          )

  pub cells_different : {q : ℕ} → p ≤ q → Codes q (codes_of (in_cells words))
  cells_different l =
      record {
        positive = cells_codes.positive;
        below = λ i h. omega (arith, cells_codes.below i h);
        different = cells_codes.different;
      }

  -- ---- how many, and in which order

  pub pairs_length : length (pairs_in words) ≡ code_count words
  unfolding pairs_in
  pairs_length = rising_length (in_cells words) ∙ cells_length

  pub pairs_codes : Codes p (codes_of (pairs_in words))
  unfolding pairs_in
  pairs_codes = rising_codes (in_cells words) cells_codes

  pub pairs_rise :
      (i : ℕ) → i + 1 < code_count words → get_or (codes_of (pairs_in words)) i 0 < get_or (codes_of (pairs_in words)) (i + 1) 0
  unfolding pairs_in
  pairs_rise i l = rising_strict (in_cells words) i (omega (arith, cells_length)) cells_codes

  -- ---- which

  -- the cell of a pair, and the pair of a cell
  pub cell_of_pair :
      {r : Pair} → Memᴰ r (pairs_in words)
      → (i : ℕ) × (i < cell_count words) × (cell_code words i ≡ r.code) × (cell_schedule words i ≡ r.schedule) × (0 < r.code)
  unfolding pairs_in
  cell_of_pair {r} m =
      let h : InCell (all_codes words) (all_schedules words) r =
      stored_in (all_codes words) (all_schedules words) same_length ((rising_mem (in_cells words)).0 m) in
      let l : h.cell < cell_count words = rw (codes_length words f.whole) at h.in_range in (
        h.cell,
        l,
        sym (code_at words h.cell l) ∙ h.code_there,
        sym (schedule_at words h.cell l) ∙ h.schedule_there,
        h.held,
      )

  pub pair_of_cell :
      {r : Pair} (i : ℕ) → i < cell_count words → cell_code words i ≡ r.code → cell_schedule words i ≡ r.schedule → 0 < r.code
      → Memᴰ r (pairs_in words)
  unfolding pairs_in
  pair_of_cell i l code schedule held =
      (rising_mem (in_cells words)).1
      (in_stored (all_codes words) (all_schedules words) same_length
      (record {
        cell = i;
        in_range = rw (codes_length words f.whole) l;
        code_there = code_at words i l ∙ code;
        schedule_there = schedule_at words i l ∙ schedule;
        held = held;
      }))

  pub pair_schedule : {r : Pair} → Memᴰ r (pairs_in words) → (1 ≤ r.schedule) × (r.schedule ≤ 999)
  pair_schedule m =
      let (i, l, code, schedule, held) = cell_of_pair m in
      let from : 1 ≤ cell_schedule words i = pos_of_ne-zero (λ none. omega (arith, (f.both_or_none i l).1 none)) in
      (omega arith, omega (arith, f.schedule_in_range i l))

  -- those that a lookup finds
  pub pairs_found :
      {r : Pair} → Memᴰ r (pairs_in words) → (i : ℕ) × (lookup_of p limit words r.code ≡ given (r.schedule ∷ i ∷ []))
  pairs_found {r} m =
      let (i, l, code, schedule, held) = cell_of_pair m in
      (i, lookup_found f r.code held (omega (arith, f.code_in_range i l)) i l code ∙ ap (λ (s : ℕ). given (s ∷ i ∷ [])) schedule)

  pub found_pairs : {r : Pair} (cell : ℕ) → lookup_of p limit words r.code ≡ given (r.schedule ∷ cell ∷ []) → Memᴰ r (pairs_in words)
  found_pairs {r} cell e =
      let (from, below) = lookup_range p limit words r.code _ (omega (arith, f.in_range)) e in
      ⊎_elim
      (λ (i, l, code).
      let found = lookup_found f r.code from below i l code in
      let same : cell_schedule words i ≡ r.schedule = cc in
      pair_of_cell i l code same from)
      (λ none.
      let gone = lookup_absent f r.code from below none in
      let never : ◌≡◌ {A = ℕ} 0 1 = cc in
      absurd (omega arith))
      (cell_of words r.code)
