-- `builder::build::build` meets its contract, as `build_for` does with the prime 65,537.
use Rattle.std.proofs.Common.{rules}
use Rattle.hash.proofs.Primes.{prime_65537}
use Rattle.builder.proofs.build.build.Goals as goal

pub build_for-requires : goal.build_for-requires
build_for-requires c = record { prime = rw c.product.ensures.0 prime_65537; limit_le_room = search rules }
