-- `editor::edit::insert` meets its contract, as `insert_for` does with the prime 65,537.
use Rattle.std.proofs.Common.{rules}
use Rattle.hash.proofs.Primes.{prime_65537}
use Rattle.editor.proofs.edit.insert.Goals as goal

pub insert_for-requires : goal.insert_for-requires
insert_for-requires c = record { prime = rw c.product.ensures.0 prime_65537; limit_le_room = search rules }
