-- What the sizes of a table that pass 12 to 15 bound.
use Prim.Native.Nat.{ℕ, ◌+◌, ◌*◌, ◌-◌, ◌<◌, ◌≤◌}
use mathlib.Core.Bool.{false}
use mathlib.Core.List.{List}
use mathlib.Core.Path.{◌≡◌}
use native.Mathlib.Decide.{ℕ_discrete}
use native.Mathlib.Omega.{arith}
use borrow.Author.Tests.{ltb-false, eq-eqb, ne_eqb}
use Rattle.table.specs.Words.{code_count, cell_count, total}
use Rattle.table.specs.Sizes.{too_many_codes, too_many_cells}
use Rattle.table.specs.code.Sized.{Sized}

-- a table with a cell has a block
pub some_codes : (words : List ℕ) → (code_count words ≡ 0 → cell_count words ≡ 0) → (i : ℕ) → i < cell_count words → 0 < code_count words
some_codes words none i l =
    elim (ℕ_discrete (code_count words) 0) [
      | yes e ↦ absurd (omega (arith, none e))
      | no ne ↦ omega arith
    ]

pub cells_le : {p limit : ℕ} {words : List ℕ} → Sized p limit words → cell_count words ≤ 3 * code_count words
cells_le {words = words} s =
    elim (ℕ_discrete (code_count words) 0) [
      | yes e ↦ omega (arith, s.no_cells e)
      | no ne ↦ omega (arith, s.few_cells (omega arith))
    ]

pub total_le : {p limit : ℕ} {words : List ℕ} → Sized p limit words → total words ≤ 3 + 8 * limit
total_le s = omega (arith, cells_le s, s.few_codes)

-- before 15 is tested
pub total_le_by : (limit : ℕ) (words : List ℕ) → too_many_codes limit words ≡ false → too_many_cells words ≡ false → total words ≤ 3 + 8 * limit
total_le_by limit words codes cells =
    let n : ℕ = code_count words in
    let few : n ≤ limit = ltb-false limit n codes in
    elim (ℕ_discrete n 0) [
      | yes e ↦ omega (arith, ltb-false 0 (cell_count words) (rw (eq-eqb n 0 e) at cells))
      | no ne ↦ omega (arith, ltb-false (3 * n - 2) (cell_count words) (rw (ne_eqb n 0 ne) at cells))
    ]
