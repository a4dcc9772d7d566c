-- The limit on pairs (document 01), and the room of local arrays: each is said here alone.
use Rattle.std.specs.Prelude.{ℕ}

-- the most pairs of a list, and codes of a table
abbrev pub most_pairs : ℕ
most_pairs = 2048

-- the most pairs that local arrays have places for
abbrev pub room : ℕ
room = 2048

-- the places of the local arrays of few pairs: of a short list, or of a block
abbrev pub few : ℕ
few = 128
