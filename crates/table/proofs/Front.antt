-- What is read from words that begin with the front of a table, and where each code's own cell is by it. For any multiplier k.
-- Block j has load * load cells, after those of the blocks before it.
use Prim.Native.Nat.{ℕ, zero, suc, ◌+◌, ◌*◌, ◌-◌, ◌<◌, ◌≤◌}
use native.Mathlib.Decide.{ℕ_discrete}
use native.Mathlib.Nat.{add_assoc, mul-pos}
use native.Mathlib.Numerals.{add-one}
use native.Mathlib.Omega.{arith}
use mathlib.Core.List.{List, [], ◌∷◌, ◌++◌, append_assoc, append-nil}
use mathlib.Core.Path.{◌≡◌, refl, sym, ap, ap₂, ◌∙◌}
use lib.ListN.{length, get_or, length-append}
use lib.Seq.{get_or-append-add}
use borrow.Author.Tests.{eq-eqb, ne_eqb}
use Rattle.hash.specs.Hash.{hash_of, load, members, sum, cells}
use Rattle.hash.proofs.Counting.{hash_lt}
use Rattle.table.specs.Words.{code_count, cell_count, multiplier, block_start, block_end, block_multiplier, block_of, cell_in, own_cell}
use Rattle.prelude.specs.Tabulate.{tabulate}
use Rattle.table.specs.TwoLevel.{blocks_multiplier, cells_multiplier, start_of, front_with, front_of}
use Rattle.prelude.proofs.Tabulate.{tabulate_length, tabulate_head, tabulate_past}

-- ---- the blocks

-- the cells of block j, and its multiplier
abbrev pub size_of : ℕ → ℕ → List ℕ → ℕ → ℕ
size_of p k codes j = load p k (length codes) j codes * load p k (length codes) j codes

abbrev pub block_q : ℕ → ℕ → List ℕ → ℕ → ℕ
block_q p k codes j = cells_multiplier p (members p k (length codes) j codes)

-- the own cell of code a
unfoldable pub own_of : ℕ → ℕ → List ℕ → ℕ → ℕ
own_of p k codes a =
    let j = hash_of p k (length codes) a in
    start_of p k codes j + hash_of p (block_q p k codes j) (size_of p k codes j) a

module _ (p k : ℕ) (codes : List ℕ) where
  pub start_first : start_of p k codes 0 ≡ 0
  unfolding start_of sum
  start_first = refl

  pub start_next : (j : ℕ) → start_of p k codes (suc j) ≡ start_of p k codes j + size_of p k codes j
  unfolding start_of sum
  start_next j = refl

  pub start_last : start_of p k codes (length codes) ≡ cells p k codes
  unfolding start_of cells
  start_last = refl

  pub start_rises : (i j : ℕ) → i ≤ j → start_of p k codes i ≤ start_of p k codes j
  start_rises i zero h = let e : i ≡ 0 = omega arith in omega (arith, ap (start_of p k codes) e)
  start_rises i (suc j) h =
      elim (ℕ_discrete i (suc j)) [
        | yes e ↦ omega (arith, ap (start_of p k codes) e)
        | no ne ↦ omega (arith, start_rises i j (omega arith), start_next j)
      ]

-- ---- what is read

pub record Fronted (p k : ℕ) (codes words : List ℕ) : Type 0 where
  pub counts : code_count words ≡ length codes
  pub celled : cell_count words ≡ cells p k codes
  pub by : multiplier words ≡ k
  pub starts : (j : ℕ) → j < length codes → block_start words j ≡ start_of p k codes j
  pub ends : (j : ℕ) → j < length codes → block_end words j ≡ start_of p k codes (suc j)
  pub block_by : (j : ℕ) → j < length codes → block_multiplier words j ≡ block_q p k codes j

-- the front, part by part, before any words
abbrev pub from_multipliers : ℕ → ℕ → List ℕ → List ℕ → List ℕ
from_multipliers p k codes rest = tabulate (block_q p k codes) (length codes) ++ rest

abbrev pub from_starts : ℕ → ℕ → List ℕ → List ℕ → List ℕ
from_starts p k codes rest = tabulate (start_of p k codes) (length codes) ++ from_multipliers p k codes rest

abbrev pub parts : ℕ → ℕ → List ℕ → List ℕ → List ℕ
parts p k codes rest = (length codes ∷ cells p k codes ∷ k ∷ []) ++ from_starts p k codes rest

module _ (p k : ℕ) (codes : List ℕ) where
  pub front_parts : (rest : List ℕ) → front_with p k codes ++ rest ≡ parts p k codes rest
  unfolding front_with
  front_parts rest = rw (append_assoc (tabulate (start_of p k codes) (length codes)) (tabulate (block_q p k codes) (length codes)) rest)

  pub front_length : length (front_with p k codes) ≡ 3 + 2 * length codes
  unfolding front_with
  front_length =
      omega (
        arith,
        length-append (tabulate (start_of p k codes) (length codes)) (tabulate (block_q p k codes) (length codes)),
        tabulate_length (start_of p k codes) (length codes),
        tabulate_length (block_q p k codes) (length codes),
      )

  -- past the front
  pub front_past : (rest : List ℕ) (i : ℕ) → get_or (front_with p k codes ++ rest) (3 + 2 * length codes + i) 0 ≡ get_or rest i 0
  front_past rest i =
      ap (λ (m : ℕ). get_or (front_with p k codes ++ rest) (m + i) 0) (sym front_length)
      ∙ get_or-append-add (front_with p k codes) rest i 0

  module _ (rest : List ℕ) (j : ℕ) (h : j < length codes) where
    parts_start : block_start (parts p k codes rest) j ≡ start_of p k codes j
    parts_start =
        get_or-append-add (length codes ∷ cells p k codes ∷ k ∷ []) (from_starts p k codes rest) j 0
        ∙ tabulate_head (start_of p k codes) (length codes) j (from_multipliers p k codes rest) h

    parts_multiplier : block_multiplier (parts p k codes rest) j ≡ block_q p k codes j
    parts_multiplier =
        ap (λ (i : ℕ). get_or (parts p k codes rest) i 0) (add_assoc 3 (length codes) j)
        ∙ get_or-append-add (length codes ∷ cells p k codes ∷ k ∷ []) (from_starts p k codes rest) (length codes + j) 0
        ∙ tabulate_past (start_of p k codes) (length codes) j (from_multipliers p k codes rest)
        ∙ tabulate_head (block_q p k codes) (length codes) j rest h

  -- the last block ends at c, any other where the next one starts
  parts_end : (rest : List ℕ) (j : ℕ) → j < length codes → block_end (parts p k codes rest) j ≡ start_of p k codes (suc j)
  parts_end rest j h =
      elim (ℕ_discrete (j + 1) (length codes)) [
        | yes last ↦
            rw (eq-eqb (j + 1) (length codes) last)
            (sym (start_last p k codes) ∙ ap (start_of p k codes) (sym last ∙ add-one j))
        | no more ↦
            rw (ne_eqb (j + 1) (length codes) more)
            (parts_start rest (j + 1) (omega arith) ∙ ap (start_of p k codes) (add-one j))
      ]

  pub fronted : (rest : List ℕ) → Fronted p k codes (front_with p k codes ++ rest)
  fronted rest =
      rw (front_parts rest)
      (record {
        counts = refl;
        celled = refl;
        by = refl;
        starts = parts_start rest;
        ends = parts_end rest;
        block_by = parts_multiplier rest;
      })

  -- of the front alone
  pub front_fronted : Fronted p k codes (front_with p k codes)
  front_fronted = rw (append-nil (front_with p k codes)) at (fronted [])

pub front_of_fronted : (p : ℕ) (codes : List ℕ) → Fronted p (blocks_multiplier p codes) codes (front_of p codes)
unfolding front_of
front_of_fronted p codes = front_fronted p (blocks_multiplier p codes) codes

-- ---- own cells

module _ {p k : ℕ} {codes words : List ℕ} (f : Fronted p k codes words) where
  pub block_is : (a : ℕ) → block_of p words a ≡ hash_of p k (length codes) a
  unfolding block_of
  block_is a = ap₂ (λ (m w : ℕ). hash_of p m w a) f.by f.counts

  pub size_is : (j : ℕ) → j < length codes → block_end words j - block_start words j ≡ size_of p k codes j
  size_is j h = omega (arith, f.starts j h, f.ends j h, start_next p k codes j)

  pub cell_is :
      (j a : ℕ) → j < length codes
      → cell_in p words j a ≡ start_of p k codes j + hash_of p (block_q p k codes j) (size_of p k codes j) a
  unfolding cell_in
  cell_is j a h =
      ap₂ ◌+◌ (f.starts j h) (ap₂ (λ (q w : ℕ). hash_of p q w a) (f.block_by j h) (size_is j h))

  pub own_is : (a : ℕ) → 0 < length codes → own_cell p words a ≡ own_of p k codes a
  unfolding own_cell own_of
  own_is a pos =
      rw (block_is a) (cell_is (hash_of p k (length codes) a) a (hash_lt p k (length codes) a pos))

-- the own cell of a code whose block has cells is one of them
module _ (p k : ℕ) (codes : List ℕ) (a : ℕ) (some : 0 < load p k (length codes) (hash_of p k (length codes) a) codes) where
  pub own_from : start_of p k codes (hash_of p k (length codes) a) ≤ own_of p k codes a
  unfolding own_of
  own_from = omega arith

  pub own_below : own_of p k codes a < start_of p k codes (suc (hash_of p k (length codes) a))
  unfolding own_of
  own_below =
      omega (
        arith,
        start_next p k codes (hash_of p k (length codes) a),
        hash_lt p (block_q p k codes (hash_of p k (length codes) a)) (size_of p k codes (hash_of p k (length codes) a)) a (mul-pos some some),
      )
