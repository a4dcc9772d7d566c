-- Condition 5 of a list (document 01, "Build").
use Rattle.std.specs.Prelude.{ℕ, Bool, List, get_or, take}
use Rattle.prelude.specs.Pairs.{among}

-- condition 5: the code with index i is equal to an earlier one
unfoldable pub repeated : List ℕ → ℕ → Bool
unfolding among
repeated codes i = among (get_or codes i 0) (take i codes)
