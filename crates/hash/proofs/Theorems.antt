-- Every theorem of specs/Theorems.antt, by the law that proves it. The two numeric bounds are compared by arithmetic, so that a
-- smaller one would be refused for its number.
use native.Mathlib.Omega.{arith}
use Rattle.hash.specs.Theorems.{Theorems}
use Rattle.hash.proofs.Primes.{euclid, prime_65537, prime_1000003, prime_2147483647}
use Rattle.hash.proofs.Collisions.{collisions}
use Rattle.hash.proofs.Multipliers.{sum_together, blocks_exist, cells_exist}
use Rattle.hash.proofs.Members.{members_codes}
use Rattle.hash.proofs.LeastLaws.{least_found}

pub theorems : Theorems
theorems =
    record {
      euclid = euclid;
      prime_65537 = prime_65537;
      prime_1000003 = prime_1000003;
      prime_2147483647 = prime_2147483647;
      collisions = λ prime w x y pos hx hy differ. omega (arith, collisions prime w x y pos hx hy differ);
      sum_together = sum_together;
      blocks_exist = λ prime codes c pos. let (k, lo, hi, few) = blocks_exist prime codes c pos in (k, lo, hi, omega arith);
      cells_exist = cells_exist;
      members_codes = members_codes;
      least_found = least_found;
    }
