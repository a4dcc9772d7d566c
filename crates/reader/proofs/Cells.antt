-- The cells of a whole table, as lists of codes and schedules.
use Prim.Native.Nat.{ℕ, ◌+◌, ◌*◌, ◌-◌, ◌<◌, ◌≤◌}
use mathlib.Core.List.{List}
use mathlib.Core.Path.{◌≡◌, sym, ◌∙◌}
use native.Mathlib.Omega.{arith}
use lib.ListN.{length, get_or, take, drop, length-drop}
use lib.Seq.{get_or-take, get_or-drop, length-take-le}
use Rattle.table.specs.Words.{code_count, cell_count, total, cell_code, cell_schedule}
use Rattle.audit.specs.Check.{all_codes}
use Rattle.reader.specs.Pairs.{all_schedules}

module _ (words : List ℕ) (whole : total words ≤ length words) where
  pub codes_length : length (all_codes words) ≡ cell_count words
  codes_length = length-take-le (cell_count words) (drop (3 + 2 * code_count words) words) (rw length-drop (omega arith))

  pub schedules_length : length (all_schedules words) ≡ cell_count words
  schedules_length =
      length-take-le (cell_count words) (drop (3 + 2 * code_count words + cell_count words) words) (rw length-drop (omega arith))

pub code_at : (words : List ℕ) (i : ℕ) → i < cell_count words → get_or (all_codes words) i 0 ≡ cell_code words i
code_at words i l = rw (get_or-take (cell_count words) (drop (3 + 2 * code_count words) words) i 0 l) (get_or-drop (3 + 2 * code_count words) words i 0)

pub schedule_at : (words : List ℕ) (i : ℕ) → i < cell_count words → get_or (all_schedules words) i 0 ≡ cell_schedule words i
schedule_at words i l =
    rw (get_or-take (cell_count words) (drop (3 + 2 * code_count words + cell_count words) words) i 0 l)
    (get_or-drop (3 + 2 * code_count words + cell_count words) words i 0)

module _ (words : List ℕ) where
  pub held_same : total words ≤ length words → length (all_schedules words) ≡ length (all_codes words)
  held_same whole = schedules_length words whole ∙ sym (codes_length words whole)

  -- as the code hands them on
  abbrev pub cells_from : ℕ → ℕ → List ℕ
  cells_from n c = take (3 + 2 * n + c - (3 + 2 * n)) (drop (3 + 2 * n) words)

  abbrev pub held_from : ℕ → ℕ → List ℕ
  held_from n c = take (3 + 2 * n + c + c - (3 + 2 * n + c)) (drop (3 + 2 * n + c) words)

  module _ {n c : ℕ} (codes_are : n ≡ code_count words) (cells_are : c ≡ cell_count words) where
    pub cells_are_all : cells_from n c ≡ all_codes words
    cells_are_all = let e : 3 + 2 * n + c - (3 + 2 * n) ≡ cell_count words = omega arith in rw (e, codes_are)

    pub held_are_all : held_from n c ≡ all_schedules words
    held_are_all = let e : 3 + 2 * n + c + c - (3 + 2 * n + c) ≡ cell_count words = omega arith in rw (e, codes_are, cells_are)
