-- What is looked up in a well-formed table: a code that stands in a cell is found with that cell's schedule, in that cell, and any
-- other is absent.
-- A code in a cell is in its own, which is the one cell that a lookup reads.
use Prim.Native.Nat.{ℕ, ◌-◌, ◌<◌, ◌≤◌}
use mathlib.Core.Bool.{true, false, cond}
use mathlib.Core.List.{List, [], ◌∷◌}
use mathlib.Core.Logic.{◌⊎◌, inl, inr}
use mathlib.Core.Path.{◌≡◌, ap, ◌∙◌}
use native.Mathlib.Decide.{ℕ_discrete}
use native.Mathlib.Nat.{pos_of_ne-zero}
use native.Mathlib.Omega.{arith}
use borrow.Author.Tests.{eq-eqb, ne_eqb, le-ltb}
use lib.Dec.{eqb}
use lib.ListN.{length}
use Rattle.prelude.specs.Answers.{given, absent, refused, outside}
use Rattle.table.specs.Words.{code_count, cell_count, multiplier, total, block_start, block_end, block_multiplier, cell_code, cell_schedule, block_of, own_cell}
use Rattle.table.specs.Sizes.{bad_sizes}
use Rattle.lookup.specs.Lookup.{in_cell, in_block, lookup_of}
use Rattle.hash.proofs.Indicators.{true_or_false}
use Rattle.prelude.proofs.Laws.{within}
use Rattle.prelude.proofs.Refusals.{never_both}
use Rattle.audit.specs.WellFormed.{WellFormed}
use Rattle.audit.specs.code.Starts.{Starts}
use Rattle.audit.proofs.Partition.{block_lt, start_le_end, end_within, cell_lt}
use Rattle.audit.proofs.Bounds.{some_codes}
use Rattle.audit.proofs.WellFormed.{cells_hold}

-- x is from low to high
within_holds : (low high x : ℕ) → low ≤ x → x ≤ high → outside low high x ≡ false
within_holds low high x l h = rw (le-ltb x low l, le-ltb high x h)

-- only a code from 1 to p - 1 is found
pub lookup_range : (p limit : ℕ) (words : List ℕ) (a : ℕ) (values : List ℕ) → 0 < p → lookup_of p limit words a ≡ given values → (1 ≤ a) × (a < p)
unfolding lookup_of
lookup_range p limit words a values pos e = go (true_or_false (outside 1 (p - 1) a))
  where
    go : (outside 1 (p - 1) a ≡ true) ⊎ (outside 1 (p - 1) a ≡ false) → (1 ≤ a) × (a < p)
    go (inl out) = let z : lookup_of p limit words a ≡ refused 31 0 = rw out in never_both z e
    go (inr inside) = let r = within 1 (p - 1) a inside in (r.0, omega arith)

module _ {p limit : ℕ} {words : List ℕ} (f : WellFormed p limit words) where
  pub starts : Starts words
  starts = record { none = f.no_cells; first = f.first_start; rising = f.rising; within = f.within }

  sizes_hold : bad_sizes p limit words ≡ false
  unfolding bad_sizes
  sizes_hold =
      rw (
        le-ltb limit (code_count words) f.few_codes,
        cells_hold p limit words f,
        within_holds 1 (p - 1) (multiplier words) f.in_range.0 (omega (arith, f.in_range)),
        le-ltb (length words) (total words) f.whole,
      )

  module _ (a : ℕ) (from : 1 ≤ a) (below : a < p) where
    lookup_sized :
        lookup_of p limit words a ≡ cond (eqb (code_count words) 0) absent (in_block p words a (block_of p words a))
    unfolding lookup_of
    lookup_sized = rw (within_holds 1 (p - 1) a from (omega arith), le-ltb (length words) 3 f.three, sizes_hold)

    lookup_block : 0 < code_count words → lookup_of p limit words a ≡ in_block p words a (block_of p words a)
    lookup_block some = lookup_sized ∙ rw (ne_eqb (code_count words) 0 (λ e. omega arith))

    lookup_empty : 0 < code_count words → block_start words (block_of p words a) ≡ block_end words (block_of p words a) → lookup_of p limit words a ≡ absent
    unfolding in_block
    lookup_empty some e =
        let j = block_of p words a in
        let l : j < code_count words = block_lt p words a some in
        lookup_block some
        ∙ rw (le-ltb (block_end words j) (block_start words j) (start_le_end words starts j l), le-ltb (cell_count words) (block_end words j) (end_within words starts j l), eq-eqb (block_start words j) (block_end words j) e)

    pub lookup_own :
        0 < code_count words → block_start words (block_of p words a) < block_end words (block_of p words a)
        → lookup_of p limit words a ≡ in_cell words a (own_cell p words a)
    unfolding in_block own_cell
    lookup_own some has =
        let j = block_of p words a in
        let l : j < code_count words = block_lt p words a some in
        lookup_block some
        ∙ rw (
          le-ltb (block_end words j) (block_start words j) (start_le_end words starts j l),
          le-ltb (cell_count words) (block_end words j) (end_within words starts j l),
          ne_eqb (block_start words j) (block_end words j) (λ e. omega arith),
          within_holds 1 (p - 1) (block_multiplier words j) (f.block_in_range j l).0 (omega (arith, f.block_in_range j l)),
        )

    pub lookup_found : (i : ℕ) → i < cell_count words → cell_code words i ≡ a → lookup_of p limit words a ≡ given (cell_schedule words i ∷ i ∷ [])
    unfolding in_cell
    lookup_found i l e =
        let some : 0 < code_count words = some_codes words f.no_cells i l in
        let has : block_start words (block_of p words a) < block_end words (block_of p words a) = rw e at (f.has_cells i l (omega arith)) in
        let own : own_cell p words a ≡ i = rw e at (f.own i l (omega arith)) in
        let s : 1 ≤ cell_schedule words i = pos_of_ne-zero (λ z. omega (arith, (f.both_or_none i l).1 z)) in
        lookup_own some has
        ∙ ap (in_cell words a) own
        ∙ rw (eq-eqb (cell_code words i) a e, within_holds 1 999 (cell_schedule words i) s (f.schedule_in_range i l))

    pub lookup_absent : ((i : ℕ) → i < cell_count words → cell_code words i ≡ a → ⊥) → lookup_of p limit words a ≡ absent
    unfolding in_cell own_cell
    lookup_absent none =
        elim (ℕ_discrete (code_count words) 0) [
          | yes e ↦ lookup_sized ∙ rw (eq-eqb (code_count words) 0 e)
          | no ne ↦
              elim (ℕ_discrete (block_start words (block_of p words a)) (block_end words (block_of p words a))) [
                | yes e ↦ lookup_empty (omega arith) e
                | no has ↦
                    let j : ℕ = block_of p words a in
                    let l : j < code_count words = block_lt p words a (omega arith) in
                    let own_lt : own_cell p words a < cell_count words = omega (arith, cell_lt words starts p j a l has, end_within words starts j l) in
                    lookup_own (omega arith) (omega (arith, start_le_end words starts j l))
                    ∙ rw (ne_eqb (cell_code words (own_cell p words a)) a (none (own_cell p words a) own_lt))
              ]
        ]
