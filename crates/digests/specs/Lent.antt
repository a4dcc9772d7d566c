-- The numbers that lent memory holds before a call.
use Rattle.std.specs.Prelude.{ℕ, ◌+◌, ◌-◌, ◌%◌, List, length, get_or}
use Rattle.prelude.specs.Tabulate.{tabulate}

-- the word in place i, counted from the first; after 2^32 - 1 comes 0
abbrev pub counted_at : ℕ → ℕ → ℕ
counted_at first i = (first + i) % 4294967296

-- n words: first, first + 1 and so on
unfoldable pub counted_from : ℕ → ℕ → List ℕ
counted_from first n = tabulate (counted_at first) n

-- the element in place i of a list from its last element to its first
abbrev pub turned_at : List ℕ → ℕ → ℕ
turned_at list i = get_or list (length list - 1 - i) 0

unfoldable pub turned : List ℕ → List ℕ
turned list = tabulate (turned_at list) (length list)
