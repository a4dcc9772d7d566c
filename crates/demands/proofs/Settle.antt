-- Of any words, checked or not, at most eight settle the answer to a code: a lookup reads n, c and k, then of the code's block its start, its
-- end and its q, then of one cell its code and its schedule. It reads no block where n is 0, and no cell where the block has none, and neither
-- does `looked_at`; so the one answer is rewritten, word by word, into the other.
use Prim.Native.Nat.{ℕ, ◌+◌, ◌*◌, ◌<◌, ◌≤◌}
use mathlib.Core.Bool.{Bool, true, false, cond}
use mathlib.Core.List.{List, [], ◌∷◌}
use mathlib.Core.Path.{◌≡◌, refl, sym, ◌∙◌}
use native.Mathlib.Decide.{ℕ_discrete, dec_lt}
use native.Mathlib.Omega.{arith}
use borrow.Author.Tests.{eq-eqb, ne_eqb, lt-ltb}
use lib.Dec.{eqb, ltb}
use lib.ListN.{length, get_or}
use Rattle.table.specs.Words.{code_count, cell_count, multiplier, block_start, block_end, block_multiplier, cell_code, cell_schedule, block_of, cell_in, own_cell}
use Rattle.table.specs.Sizes.{bad_sizes}
use Rattle.lookup.specs.Lookup.{in_block, lookup_of}
use Rattle.demands.specs.Lists.{AgreeAt, looked_at}

-- where block j ends is one word too: the next start, or c
abbrev end_at : List ℕ → ℕ → ℕ
end_at words j = cond (eqb (j + 1) (code_count words)) 1 (3 + (j + 1))

end_at_lem : (words : List ℕ) (j : ℕ) → block_end words j ≡ get_or words (end_at words j) 0
end_at_lem words j = one (eqb (j + 1) (code_count words))
  where
    one : (b : Bool) → cond b (cell_count words) (get_or words (3 + (j + 1)) 0) ≡ get_or words (cond b 1 (3 + (j + 1))) 0
    one true = refl
    one false = refl

-- the answer from block j: its words agree, and where it has cells those of the code's own cell
module _ (p : ℕ) (words other : List ℕ) (a j : ℕ) (n : code_count other ≡ code_count words) (c : cell_count other ≡ cell_count words) where
  block_settles :
      block_start other j ≡ block_start words j → get_or other (end_at words j) 0 ≡ get_or words (end_at words j) 0
      → get_or other (3 + code_count words + j) 0 ≡ block_multiplier words j
      → (block_start words j < block_end words j
      → get_or other (3 + 2 * code_count words + cell_in p words j a) 0 ≡ cell_code words (cell_in p words j a))
      → (block_start words j < block_end words j
      → get_or other (3 + 2 * code_count words + cell_count words + cell_in p words j a) 0 ≡ cell_schedule words (cell_in p words j a))
      → in_block p other a j ≡ in_block p words a j
  unfolding in_block cell_in
  block_settles s next q code schedule =
      let e : block_end other j ≡ block_end words j = end_at_lem other j ∙ rw n next ∙ sym (end_at_lem words j) in
      elim (dec_lt (block_start words j) (block_end words j)) [
        | yes has ↦ rw (e, s, n, q, c, code has, schedule has)
        | no ge ↦
            elim (ℕ_discrete (block_start words j) (block_end words j)) [
              | yes same ↦ rw (e, s, c, eq-eqb (block_start words j) (block_end words j) same)
              | no ne ↦ rw (e, s, lt-ltb (block_end words j) (block_start words j) (omega arith))
            ]
      ]

-- three positions for the sizes, three of a block and two of a cell, where there are any
eight : (none has : Bool) (s e q code schedule : ℕ) → length (0 ∷ 1 ∷ 2 ∷ cond none [] (s ∷ e ∷ q ∷ cond has (code ∷ schedule ∷ []) [])) ≤ 8
eight true has s e q code schedule = omega arith
eight false true s e q code schedule = omega arith
eight false false s e q code schedule = omega arith

module _ (p : ℕ) (words : List ℕ) (a : ℕ) where
  pub looked_at_eight : length (looked_at p words a) ≤ 8
  unfolding looked_at
  looked_at_eight =
      let n = code_count words in
      let j = block_of p words a in
      let i = own_cell p words a in
      eight (eqb n 0) (ltb (block_start words j) (block_end words j)) (3 + j) (end_at words j) (3 + n + j) (3 + 2 * n + i)
      (3 + 2 * n + cell_count words + i)

  -- the positions of the code's own cell
  cell_at : List ℕ
  cell_at = (3 + 2 * code_count words + own_cell p words a) ∷ (3 + 2 * code_count words + cell_count words + own_cell p words a) ∷ []

  has_cells : Bool
  has_cells = ltb (block_start words (block_of p words a)) (block_end words (block_of p words a))

  -- all positions, where there are blocks
  block_at : List ℕ → List ℕ
  block_at cell = 0 ∷ 1 ∷ 2 ∷ (3 + block_of p words a) ∷ end_at words (block_of p words a) ∷ (3 + code_count words + block_of p words a) ∷ cell

  module _ (some : code_count words ≡ 0 → ⊥) where
    looked_at_lem : (cell : List ℕ) → cond has_cells cell_at [] ≡ cell → looked_at p words a ≡ block_at cell
    unfolding looked_at cell_at has_cells block_at
    looked_at_lem cell e = rw (ne_eqb (code_count words) 0 some, e)

    module _ (other : List ℕ) (agree : AgreeAt (looked_at p words a) words other) where
      agree_block : (cell : List ℕ) → cond has_cells cell_at [] ≡ cell → AgreeAt (block_at cell) words other
      agree_block cell e = rw (looked_at_lem cell e) at agree

      own_block_settles : in_block p other a (block_of p words a) ≡ in_block p words a (block_of p words a)
      unfolding own_cell cell_at has_cells block_at
      own_block_settles =
          let at = agree_block _ refl in
          block_settles p words other a (block_of p words a) (at 0 (omega arith)) (at 1 (omega arith)) (at 3 (omega arith))
          (at 4 (omega arith))
          (at 5 (omega arith))
          (λ has. agree_block cell_at (rw (lt-ltb _ _ has)) 6 (omega arith))
          (λ has. agree_block cell_at (rw (lt-ltb _ _ has)) 7 (omega arith))

pub settle :
    (p limit : ℕ) (words other : List ℕ) (a : ℕ) → length other ≡ length words → AgreeAt (looked_at p words a) words other
    → lookup_of p limit other a ≡ lookup_of p limit words a
unfolding lookup_of bad_sizes block_of looked_at
settle p limit words other a len agree =
    let n : code_count other ≡ code_count words = agree 0 (omega arith) in
    let c : cell_count other ≡ cell_count words = agree 1 (omega arith) in
    let k : multiplier other ≡ multiplier words = agree 2 (omega arith) in
    elim (ℕ_discrete (code_count words) 0) [
      | yes none ↦ rw (len, n, c, k, eq-eqb (code_count words) 0 none)
      | no some ↦ rw (← own_block_settles p words a some other agree, len, n, c, k)
    ]
