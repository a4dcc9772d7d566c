-- `digests::lent::reverse` meets its contract: each place of a copy that is reversed holds the element in the place as far from the last.
use Rattle.digests.proofs.Filling.{reversed_turned}
use Rattle.digests.proofs.lent.reverse.Goals as goal

pub returns : goal.returns
returns c = reversed_turned c.copy_from_slice.ensures.after c.reverse.ensures.len c.reverse.ensures.by_index
