-- The search for q: the cells before a trial of q, what the trial tells, and that the search ends at the least q that separates the block.
use Prim.Native.Nat.{ℕ, ◌+◌, ◌≤◌}
use native.Mathlib.Nat.{mul-le-mul_left, mul-le-mul_right}
use native.Mathlib.Omega.{arith}
use mathlib.Core.Bool.{Bool, true, false}
use mathlib.Core.List.{List, [], ◌∷◌}
use mathlib.Core.Path.{◌≡◌, refl, sym, ap, ◌∙◌}
use borrow.Author.Tests.{eq-eqb, ne_eqb, eqb-true}
use lib.ListN.{length, replicate, length-replicate}
use Rattle.hash.specs.Hash.{hash_of, load, together}
use Rattle.prelude.specs.Pairs.{paired, value_where}
use Rattle.prelude.specs.Tabulate.{tabulate}
use Rattle.table.specs.TwoLevel.{cells_multiplier, held_at}
use Rattle.prelude.proofs.Tabulate.{tabulate_length}
use Rattle.table.proofs.Chosen.{cells_least}
use Rattle.search.specs.code.Searchable.{Searchable}
use Rattle.search.specs.code.Cells.{square, separates, filled_by, Unplaced, Placing, Tried, Separated, Untried}
use Rattle.jumps.specs.code.Jumps.{Passed}
use Rattle.search.proofs.Tries.{Trying, trying_start, trying_more, trying_skip, trying_found}
use Rattle.search.proofs.Places.{placing_all}

-- the cells of a block that is not placed
module _ {p : ℕ} {block cells : List ℕ} (u : Unplaced p block cells) where
  pub unplaced_square : length cells ≡ square block
  unplaced_square = ap length u.zeros ∙ length-replicate {A = ℕ} (square block) 0

  -- what a trial ends with
  module _ {w : ℕ} (is : w ≡ square block) where
    pub unplaced_zeros : cells ≡ replicate w 0
    unplaced_zeros = u.zeros ∙ ap (λ (n : ℕ). replicate n 0) (sym is)

    pub tried_all : {q i : ℕ} {new : List ℕ} → Placing p q w block i new → i ≤ 0 → Tried p q block cells new true
    tried_all {q} {i} {new} h end =
        let (none, filled) = placing_all h end in
        let e : separates p block q ≡ true =
        eq-eqb (together p q (square block) block) 0 (ap (λ (v : ℕ). together p q v block) (sym is) ∙ none) in
        record { answer = sym e; cells = rw e (filled ∙ ap (λ (v : ℕ). tabulate (held_at (hash_of p q v) block block) v) is) }

    pub tried_stop : {q : ℕ} {new : List ℕ} → (together p q w block ≡ 0 → ⊥) → new ≡ replicate w 0 → Tried p q block cells new false
    tried_stop {q} {new} shared zeros =
        let e : separates p block q ≡ false =
        ne_eqb (together p q (square block) block) 0 (λ none. shared (ap (λ (v : ℕ). together p q v block) is ∙ none)) in
        record { answer = sym e; cells = rw e (zeros ∙ sym unplaced_zeros) }

-- at most 8 codes have at most 64 cells
pub few_cells : {w : ℕ} (block : List ℕ) → w ≡ square block → length block ≤ 8 → w ≤ 64
few_cells {w} block is few = omega (arith, is, mul-le-mul_left (length block) few, mul-le-mul_right 8 few)

-- q is to be tried
abbrev pub TryingCells : ℕ → List ℕ → ℕ → Type 0
TryingCells p block q = Trying (separates p block) p (cells_multiplier p block) q

pub cells_start : {p : ℕ} {block : List ℕ} → Searchable p block → TryingCells p block 1
cells_start {p} {block} codes = trying_start (cells_least codes.prime block codes.valid)

-- the same of one that is not past the least multiplier
pub cells_untried : {p q : ℕ} {block : List ℕ} → Searchable p block → Untried p block q → TryingCells p block q
cells_untried {p} {q} {block} codes h = record { least = cells_least codes.prime block codes.valid; from_one = h.from_one; upto = h.upto }

pub untried : {p q : ℕ} {block : List ℕ} → TryingCells p block q → Untried p block q
untried h = record { from_one = h.from_one; upto = h.upto }

-- one cell is the place of every code, by any multiplier
pub one_cell : (p q a : ℕ) → hash_of p q 1 a ≡ 0
unfolding hash_of
one_cell p q a = omega arith

-- a block of one code, whatever is listed with it, or of none
pub cells_one :
    {p a : ℕ} → Searchable p (a ∷ []) → (cells_multiplier p (a ∷ []) ≡ 1) × ((v : ℕ) → filled_by p 1 (a ∷ []) (v ∷ []) ≡ v ∷ [])
unfolding cells_multiplier together load tabulate held_at paired value_where
cells_one {p} {a} codes = (sym (trying_found (cells_start codes) refl), λ v. rw (one_cell p 1 a))

pub cells_none : {p : ℕ} → Searchable p [] → cells_multiplier p [] ≡ 1
unfolding cells_multiplier together
cells_none codes = sym (trying_found (cells_start codes) refl)

-- q passes: it is the least one
pub cells_separated : {p q : ℕ} {block : List ℕ} → TryingCells p block q → separates p block q ≡ true → Separated p block q
cells_separated {p} {q} {block} h passes =
    record {
      multiplier = trying_found h passes;
      below = omega (arith, h.upto, h.least.below);
      apart = eqb-true (together p q (square block) block) 0 passes;
    }

-- what a trial of q answers: the least q, with the codes in the cells, or that the next one is to be tried in the same cells
module _ {p q : ℕ} {block old new : List ℕ} {r : Bool} (tried : Tried p q block old new r) where
  pub cells_found : TryingCells p block q → r ≡ true → Separated p block q
  cells_found h passes = cells_separated h (sym tried.answer ∙ passes)

  -- its cells are filled
  module _ (passes : r ≡ true) where
    separating : separates p block q ≡ true
    separating = sym tried.answer ∙ passes

    filled : new ≡ filled_by p q block block
    filled = tried.cells ∙ rw separating refl

    cells_sized : length new ≡ square block
    cells_sized = ap length filled ∙ tabulate_length (held_at (hash_of p q (square block)) block block) (square block)

    pub cells_filled : (w : ℕ) → w ≡ square block → Placing p q w block 0 new
    cells_filled w is =
        rw is
        (record {
          left = omega arith;
          sized = cells_sized;
          apart = eqb-true (together p q (square block) block) 0 separating;
          held = filled;
        })

  pub cells_more : TryingCells p block q → r ≡ false → TryingCells p block (q + 1) × (new ≡ old)
  cells_more h fails =
      let e : separates p block q ≡ false = sym tried.answer ∙ fails in
      (trying_more h e, tried.cells ∙ rw e)

-- what is passed over separates no block
pub cells_skip : {p q r : ℕ} {block : List ℕ} → TryingCells p block q → Passed p (square block) 0 block q r → TryingCells p block r
cells_skip {p} {q} {r} {block} h passed =
    trying_skip h passed.from (λ j l m. ne_eqb (together p j (square block) block) 0 (λ none. absurd (omega (arith, passed.over j l m))))
