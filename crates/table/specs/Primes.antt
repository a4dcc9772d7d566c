-- The primes that a table may be built with (document 02, Change 6).
use Rattle.std.specs.Prelude.{ℕ, Bool, ◌||◌, eqb}

-- p is one of the three
abbrev pub is_table_prime : ℕ → Bool
is_table_prime p = eqb p 65537 || (eqb p 1000003 || eqb p 2147483647)
