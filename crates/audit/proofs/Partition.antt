-- The blocks of a table whose starts rise follow one another from cell 0 to cell c.
use Prim.Native.Nat.{ℕ, zero, suc, ◌+◌, ◌-◌, ◌<◌, ◌≤◌, zero-le}
use mathlib.Core.Bool.{cond}
use mathlib.Core.List.{List}
use mathlib.Core.Path.{◌≡◌, refl, sym, ap}
use native.Mathlib.Decide.{ℕ_discrete, dec_lt}
use native.Mathlib.Nat.{le_antisymm}
use native.Mathlib.Numerals.{add-one}
use native.Mathlib.Omega.{arith}
use borrow.Author.Tests.{eq-eqb, ne_eqb}
use lib.Dec.{eqb}
use Rattle.hash.proofs.Counting.{hash_lt}
use Rattle.table.specs.Words.{code_count, cell_count, multiplier, block_start, block_end, block_multiplier, block_of, cell_in}
use Rattle.audit.specs.code.Starts.{Starts}

pub block_lt : (p : ℕ) (words : List ℕ) (a : ℕ) → 0 < code_count words → block_of p words a < code_count words
unfolding block_of
block_lt p words a l = hash_lt p (multiplier words) (code_count words) a l

-- where block j starts, and c after the last: `block_end words j` is `edge words (j + 1)`
abbrev pub edge : List ℕ → ℕ → ℕ
edge words j = cond (eqb j (code_count words)) (cell_count words) (block_start words j)

module _ (words : List ℕ) (s : Starts words) where
  pub edge_start : (j : ℕ) → j < code_count words → edge words j ≡ block_start words j
  edge_start j l = rw (ne_eqb j (code_count words) (omega arith))

  pub edge_last : edge words (code_count words) ≡ cell_count words
  edge_last = rw (eq-eqb (code_count words) (code_count words) refl)

  pub edge_zero : edge words 0 ≡ 0
  edge_zero =
      elim (ℕ_discrete 0 (code_count words)) [
        | yes e ↦ rw (eq-eqb 0 (code_count words) e) (s.none (sym e))
        | no ne ↦ rw (ne_eqb 0 (code_count words) ne) (s.first (omega arith))
      ]

  pub edge_step : (j : ℕ) → j < code_count words → edge words j ≤ edge words (j + 1)
  edge_step j l =
      elim (ℕ_discrete (j + 1) (code_count words)) [
        | yes e ↦ rw (ne_eqb j (code_count words) (omega arith), eq-eqb (j + 1) (code_count words) e) (s.within j l)
        | no ne ↦ rw (ne_eqb j (code_count words) (omega arith), ne_eqb (j + 1) (code_count words) ne) (s.rising j (omega arith))
      ]

  pub edges_rise : (j i : ℕ) → i ≤ j → j ≤ code_count words → edge words i ≤ edge words j
  edges_rise zero i l h = omega (arith, ap (edge words) (le_antisymm l zero-le))
  edges_rise (suc j) i l h =
      elim (ℕ_discrete i (suc j)) [
        | yes e ↦ omega (arith, ap (edge words) e)
        | no ne ↦ omega (arith, edges_rise j i (omega arith) (omega arith), rw (add-one j) at (edge_step j h))
      ]

  pub edge_within : (j : ℕ) → j ≤ code_count words → edge words j ≤ cell_count words
  edge_within j h = omega (arith, edges_rise (code_count words) j h (omega arith), edge_last)

  -- a cell of one block is none of another
  pub apart :
      (b j x y : ℕ) → b < code_count words → j < code_count words → (b ≡ j → ⊥) → edge words b ≤ x → x < edge words (b + 1)
      → edge words j ≤ y → y < edge words (j + 1) → x ≡ y → ⊥
  apart b j x y lb lj ne b₀ b₁ j₀ j₁ e =
      elim (dec_lt b j) [
        | yes l ↦ omega (arith, edges_rise j (b + 1) (omega arith) (omega arith))
        | no ge ↦ omega (arith, edges_rise b (j + 1) (omega arith) (omega arith))
      ]

  pub start_le_end : (j : ℕ) → j < code_count words → block_start words j ≤ block_end words j
  start_le_end j l = omega (arith, edge_step j l, edge_start j l)

  pub end_within : (j : ℕ) → j < code_count words → block_end words j ≤ cell_count words
  end_within j l = edge_within (j + 1) (omega arith)

  -- a place in a block that has cells is one of them
  pub cell_lt : (p b a : ℕ) → b < code_count words → (block_start words b ≡ block_end words b → ⊥) → cell_in p words b a < block_end words b
  unfolding cell_in
  cell_lt p b a l has =
      omega
      (arith, hash_lt p (block_multiplier words b) (block_end words b - block_start words b) a (omega (arith, start_le_end b l)))
