-- Pairs of a code and a value that goes with it, and lists of them side by side in two arrays (document 01, "What the controller has").
use Rattle.std.specs.Prelude.{ℕ, Bool, false, ◌||◌, cond, List, [], ◌∷◌, map, eqb}

-- a code with its schedule, or with another value that goes with it
pub record Pair : Type 0 where
  pub code : ℕ
  pub schedule : ℕ

abbrev pub codes_of : List Pair → List ℕ
codes_of pairs = map (λ (r : Pair). r.code) pairs

abbrev pub schedules_of : List Pair → List ℕ
schedules_of pairs = map (λ (r : Pair). r.schedule) pairs

-- codes and schedules, side by side in two arrays, as pairs
unfoldable pub paired : List ℕ → List ℕ → List Pair
paired [] schedules = []
paired (a ∷ codes) [] = []
paired (a ∷ codes) (s ∷ schedules) = record { code = a; schedule = s } ∷ paired codes schedules

-- the pairs whose code passes a test, in their order
unfoldable pub pairs_where : (ℕ → Bool) → List Pair → List Pair
pairs_where test [] = []
pairs_where test (r ∷ pairs) = cond (test r.code) (r ∷ pairs_where test pairs) (pairs_where test pairs)

-- the value that goes with the first code that passes a test, 0 where none does
unfoldable pub value_where : (ℕ → Bool) → List Pair → ℕ
value_where test [] = 0
value_where test (r ∷ pairs) = cond (test r.code) r.schedule (value_where test pairs)

-- a is among these codes
unfoldable pub among : ℕ → List ℕ → Bool
among a [] = false
among a (x ∷ codes) = eqb a x || among a codes
