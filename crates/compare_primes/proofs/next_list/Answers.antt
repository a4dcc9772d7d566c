-- `compare_primes::next_list` is safe: what it builds for is one of the three primes.
use mathlib.Core.Path.{sym, ◌∙◌}
use Rattle.table.proofs.ThreePrimes.{table_prime}
use Rattle.compare_primes.proofs.next_list.Goals as goal

pub build_next-requires : goal.build_next-requires
build_next-requires c =
    table_prime _ (sym c.is_table_prime.ensures ∙ c.if-not-is_table_prime.false)
