-- Lent memory that is written piece by piece: what a piece leaves there.
use Rattle.std.specs.Prelude.{ℕ, ◌+◌, ◌≤◌, List, ◌++◌, ◌≡◌, length, take, drop}

-- a piece stands from `at` up to `end`, and all else is kept
pub record Added (piece : List ℕ) (at : ℕ) (old : List ℕ) (end : ℕ) (new : List ℕ) : Type 0 where
  pub place : end ≡ at + length piece
  pub fits : end ≤ length old
  pub memory : new ≡ take at old ++ (piece ++ drop end old)
