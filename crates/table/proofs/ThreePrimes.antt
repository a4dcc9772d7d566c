-- Each of the three is prime.
use Prim.Native.Nat.{ℕ}
use mathlib.Core.Bool.{Bool, true, false, ◌||◌}
use mathlib.Core.Path.{◌≡◌, refl}
use borrow.Author.Tests.{eqb-true}
use lib.Dec.{eqb}
use Rattle.hash.specs.Theorems.{Prime}
use Rattle.hash.proofs.Primes.{prime_65537, prime_1000003, prime_2147483647}
use Rattle.table.specs.Primes.{is_table_prime}

-- one of two tests that holds
either : {P : Type 0} (a b : Bool) → a || b ≡ true → (a ≡ true → P) → (b ≡ true → P) → P
either true b e left right = left refl
either false b e left right = right e

pub table_prime : (p : ℕ) → is_table_prime p ≡ true → Prime p
table_prime p e =
    either (eqb p 65537) _ e
    (λ t. rw (eqb-true p 65537 t) prime_65537)
    (λ others.
    either (eqb p 1000003) _ others
    (λ t. rw (eqb-true p 1000003 t) prime_1000003)
    (λ t. rw (eqb-true p 2147483647 t) prime_2147483647))
