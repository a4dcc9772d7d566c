-- Conditions 16 to 18 as one search: what a test that is handed on computes.
use Rattle.std.specs.Prelude.{ℕ, ◌<◌, Bool, ◌≡◌}

-- a call that gives r for i gives f i, for each i below n
abbrev pub TestIs : (ℕ → Bool → Type 0) → ℕ → (ℕ → Bool) → Type 0
TestIs gives n f = (i : ℕ) (r : Bool) → i < n → gives i r → r ≡ f i
