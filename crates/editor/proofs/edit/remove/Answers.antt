-- `editor::edit::remove` meets its contract, as `remove_for` does with the prime 65,537.
use Rattle.std.proofs.Common.{rules}
use Rattle.hash.proofs.Primes.{prime_65537}
use Rattle.editor.proofs.edit.remove.Goals as goal

pub remove_for-requires : goal.remove_for-requires
remove_for-requires c = record { prime = rw c.product.ensures.0 prime_65537; limit_le_room = search rules }
