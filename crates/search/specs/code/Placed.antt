-- The values listed with the codes of one place: the codes themselves, or what goes with them.
use Rattle.std.specs.Prelude.{ℕ, List, eqb}
use Rattle.hash.specs.Hash.{hash_of}
use Rattle.prelude.specs.Pairs.{schedules_of, paired, pairs_where}

-- the values listed with the codes of place t, in the list's order
unfoldable pub values_of : ℕ → ℕ → ℕ → ℕ → List ℕ → List ℕ → List ℕ
unfolding hash_of paired pairs_where
values_of p k w t codes values = schedules_of (pairs_where (λ a. eqb (hash_of p k w a) t) (paired codes values))
