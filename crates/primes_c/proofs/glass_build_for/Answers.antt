-- `primes_c::glass_build_for` meets its contract: by the test of the prime, and then by the build for it.
use mathlib.Core.Bool.{true}
use native.Mathlib.Omega.{arith}
use mathlib.Core.Path.{◌≡◌, sym, ◌∙◌}
use borrow.Author.Rules.{rules}
use Rattle.table.specs.Primes.{is_table_prime}
use Rattle.table.proofs.ThreePrimes.{table_prime}
use Rattle.primes_c.proofs.Outcomes.{other_prime, one_of_three}
use Rattle.primes_c.proofs.glass_build_for.Goals as goal

pub returns-then-not-is_table_prime : goal.returns-then-not-is_table_prime
returns-then-not-is_table_prime c = other_prime _ _ _ _ _ (sym c.is_table_prime.ensures ∙ c.if-not-is_table_prime.true)

pub invariant_of-format : goal.invariant_of-format
invariant_of-format c =
    let is_one : is_table_prime c.args.prime ≡ true = sym c.is_table_prime.ensures ∙ c.if-not-is_table_prime.false in
    omega (arith, (table_prime c.args.prime is_one).two_le)

pub build_for-requires : goal.build_for-requires
build_for-requires c =
    let is_one : is_table_prime c.args.prime ≡ true = sym c.is_table_prime.ensures ∙ c.if-not-is_table_prime.false in
    record { prime = table_prime _ is_one; limit_le_room = search rules }

pub returns : goal.returns
returns c =
    let is_one : is_table_prime c.args.prime ≡ true = sym c.is_table_prime.ensures ∙ c.if-not-is_table_prime.false in
    one_of_three _ _ _ _ _ is_one c.build_for.ensures c.in_numbers.ensures
