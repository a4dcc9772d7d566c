-- What is told of all blocks at once, from what is told of those of one cell and of those of more; and what it says of 19 and 20.
use Prim.Native.Nat.{ℕ, zero, suc, ◌+◌, ◌*◌, ◌-◌, ◌<◌, ◌≤◌}
use mathlib.Core.Bool.{Bool, true, false, ◌&&◌, ◌||◌, true≢false}
use mathlib.Core.List.{List, [], ◌∷◌}
use mathlib.Core.Path.{◌≡◌, refl, sym, ap, subst}
use native.Mathlib.Decide.{ℕ_discrete, dec_lt}
use native.Mathlib.Numerals.{add-one}
use native.Mathlib.Omega.{arith}
use borrow.Author.Tests.{eq-eqb, ne_eqb, eqb-true, lt-ltb, le-ltb}
use lib.Dec.{eqb, ltb}
use lib.ListN.{length, get_or, take, drop}
use Rattle.prelude.specs.Answers.{given, first_of, first_where, some}
use Rattle.table.specs.Words.{code_count, cell_count, block_start, block_end}
use Rattle.prelude.specs.code.Choice.{chosen}
use Rattle.prelude.proofs.Choosing.{chosen_below, some_chosen}
use Rattle.std.specs.Prelude.{Some, None}
use Rattle.prelude.proofs.First.{Below}
use Rattle.prelude.proofs.Where.{where_found, where_first, where_passed}
use Rattle.prelude.proofs.Some.{some_of_none, some_ext, some_or, some_holds, none_below}
use Rattle.audit.specs.Check.{misplaced, bad_square, codes_in, all_codes}
use Rattle.audit.specs.code.Starts.{Starts}
use Rattle.audit.specs.code.Blocks.{Lined, Ranged}
use Rattle.audit.specs.code.From.{from_count, from_places}
use Rattle.audit.specs.code.Places.{cells_of, unsound, some_listed, InRun, OneEach}
use Rattle.audit.proofs.Bounds.{cells_le}
use Rattle.audit.proofs.Partition.{edge, edge_start, edge_zero, edge_last, start_le_end, end_within}

pub lined : {p : ℕ} {words : List ℕ} → Ranged p 65536 words → Lined words
lined r = record { few_codes = r.sized.few_codes; few_cells = cells_le r.sized; whole = r.sized.whole; starts = r.starts }

-- numbers that are chosen in a run are those of blocks
pub in_run :
    {words list : List ℕ} {from to : ℕ} (f : ℕ → Bool) → list ≡ chosen f (to - from) → to ≤ code_count words → InRun words from list
in_run {words} {list} {from} {to} f are l =
    record { below = λ x m. omega (arith, rw (← are) at (chosen_below f (to - from) x (rw are at m)).0) }

pub one_each :
    {words list : List ℕ} {from : ℕ} (w : ℕ) → list ≡ chosen (λ t. eqb (cells_of words (from + t)) 1) w → OneEach words from list
one_each {words} {list} {from} w are =
    record {
      one_cell = λ x m.
          eqb-true _ 1 (rw (← are) at (chosen_below (λ t. eqb (cells_of words (from + t)) 1) w x (rw are at m)).1);
    }

-- the block of a listed number
pub run_block :
    {words list : List ℕ} {from t : ℕ} → InRun words from list → (i : ℕ) → i < length list → t ≡ get_or list i 0 → from + t < code_count words
run_block r i l e = omega (arith, r.below i l, e)

module _ (p : ℕ) (words : List ℕ) where
  -- a block without cells is sound
  empty_sound : (j : ℕ) → cells_of words j ≡ 0 → unsound p words j ≡ false
  unfolding unsound bad_square codes_in
  empty_sound j e = rw (e, some_of_none (λ t. misplaced p words (block_start words j + t))) refl

  -- a block has no cells, one, or more
  one_or_more :
      (j : ℕ) → (eqb (cells_of words j) 1 && unsound p words j) || (ltb 1 (cells_of words j) && unsound p words j) ≡ unsound p words j
  one_or_more j =
      let m : ℕ = cells_of words j in
      elim (ℕ_discrete m 1) [
        | yes e ↦ rw (eq-eqb m 1 e, le-ltb 1 m (omega arith)) (or_none (unsound p words j))
        | no ne ↦
            rw (ne_eqb m 1 ne)
            (elim (dec_lt 1 m) [
              | yes l ↦ rw (lt-ltb 1 m l) refl
              | no ge ↦ rw (le-ltb 1 m (omega arith)) (sym (empty_sound j (omega arith)))
            ])
      ]
    where
      or_none : (b : Bool) → b || false ≡ b
      or_none true = refl
      or_none false = refl

  -- what is told of the listed blocks of a run is told of the run
  pub run_told :
      (from w : ℕ) (ones more : List ℕ)
      → ones ≡ chosen (λ t. eqb (cells_of words (from + t)) 1) w → more ≡ chosen (λ t. ltb 1 (cells_of words (from + t))) w
      → some_listed p words from ones || some_listed p words from more ≡ some w (λ t. unsound p words (from + t))
  run_told from w ones more a b =
      let u : ℕ → Bool = λ (t : ℕ). unsound p words (from + t) in
      let f : ℕ → Bool = λ (t : ℕ). eqb (cells_of words (from + t)) 1 in
      let g : ℕ → Bool = λ (t : ℕ). ltb 1 (cells_of words (from + t)) in
      rw (a, b, some_chosen f u w, some_chosen g u w, some_or w (λ t. f t && u t) (λ t. g t && u t))
      (some_ext w _ u (λ t l. one_or_more (from + t)))

  module _ (s : Starts words) where
    -- cells before block j, whose blocks have no misplaced code
    placed_before :
        (j : ℕ) → j ≤ code_count words
        → ((i : ℕ) → i < j → some (cells_of words i) (λ t. misplaced p words (block_start words i + t)) ≡ false)
        → Below (misplaced p words) (edge words j)
    placed_before zero l each i m = absurd (omega (arith, edge_zero words s))
    placed_before (suc j) l each i m =
        elim (dec_lt i (edge words j)) [
          | yes b ↦ placed_before j (omega arith) (λ x y. each x (omega arith)) i b
          | no ge ↦
              let at : edge words j ≡ block_start words j = edge_start words s j l in
              let end : block_end words j ≡ edge words (suc j) = ap (edge words) (add-one j) in
              subst (λ (x : ℕ). misplaced p words x ≡ false) (omega arith)
              (none_below (cells_of words j) (λ t. misplaced p words (block_start words j + t)) (each j (omega arith)) (i - block_start words j) (omega arith))
        ]

    pub none_misplaced :
        ((i : ℕ) → i < code_count words → some (cells_of words i) (λ t. misplaced p words (block_start words i + t)) ≡ false)
        → Below (misplaced p words) (cell_count words)
    none_misplaced each =
        subst (Below (misplaced p words)) (edge_last words s) (placed_before (code_count words) (omega arith) each)

    -- the first misplaced code of block j, where those before it have none
    module _ (j : ℕ) (lj : j < code_count words) (before : Below (misplaced p words) (edge words j)) where
      passed : (t : ℕ) → Below (λ t. misplaced p words (block_start words j + t)) t → Below (misplaced p words) (block_start words j + t)
      passed t none i m =
          elim (dec_lt i (edge words j)) [
            | yes b ↦ before i b
            | no ge ↦
                subst (λ (x : ℕ). misplaced p words x ≡ false) (omega (arith, edge_start words s j lj))
                (none (i - block_start words j) (omega (arith, edge_start words s j lj)))
          ]

      pub cell_found :
          {t : ℕ} → first_where (cells_of words j) (λ t. misplaced p words (block_start words j + t)) ≡ Some t
          → first_where (cell_count words) (misplaced p words) ≡ Some (block_start words j + t)
      cell_found {t} e =
          let (l, first) = where_first _ _ e in
          where_found (cell_count words) (misplaced p words) (block_start words j + t) (omega (arith, end_within words s j lj)) (passed t first.below) (first.holds l)

      pub cells_passed :
          first_where (cells_of words j) (λ t. misplaced p words (block_start words j + t)) ≡ None → Below (misplaced p words) (edge words (j + 1))
      cells_passed e i m = passed (cells_of words j) (where_passed _ _ e) i (omega (arith, start_le_end words s j lj))

-- 19, then 20
module _ (p : ℕ) (words : List ℕ) (s : Starts words) where
  -- of a table that is sound neither holds
  pub sound_answer : some (code_count words) (unsound p words) ≡ false → from_count words ≡ from_places p words
  unfolding from_places unsound
  sound_answer e =
      let each = none_below (code_count words) (unsound p words) e in
      let cells : ℕ → Bool = λ (j : ℕ). some (cells_of words j) (λ t. misplaced p words (block_start words j + t)) in
      let placed = none_misplaced p words s (λ j l. or_left (cells j) (bad_square words j) (each j l)) in
      let squares : Below (bad_square words) (code_count words) = λ j l. or_right (cells j) (bad_square words j) (each j l) in
      rw (some_holds (cell_count words) (misplaced p words) placed, some_holds (code_count words) (bad_square words) squares) refl
    where
      or_left : (a b : Bool) → a || b ≡ false → a ≡ false
      or_left true b e = e
      or_left false b e = refl

      or_right : (a b : Bool) → a || b ≡ false → b ≡ false
      or_right true b e = absurd (true≢false e)
      or_right false b e = e

-- a table without blocks is accepted
pub empty_accepted : (p : ℕ) (words : List ℕ) → code_count words ≡ 0 → cell_count words ≡ 0 → given (0 ∷ 3 ∷ []) ≡ from_places p words
unfolding from_places from_count first_of codes_in
empty_accepted p words en ec = rw (en, ec) refl

-- all codes, as the code hands them on
pub all_codes_is :
    (words : List ℕ) (n c : ℕ) → n ≡ code_count words → c ≡ cell_count words
    → take ((3 + 2 * n + c) - (3 + 2 * n)) (drop (3 + 2 * n) words) ≡ all_codes words
all_codes_is words n c en ec =
    let cells : (3 + 2 * n + c) - (3 + 2 * n) ≡ cell_count words = omega arith in
    rw (cells, en)
