-- `digests::lent::count_from` meets its contract. The invariant: the first words are counted from the first, the later ones are as they were, and the next
-- number is that of the next word.
use mathlib.Core.Path.{◌≡◌}
use Rattle.prelude.proofs.Tabulate.{TabulatedTo}
use Rattle.digests.specs.Lent.{counted_at}
use Rattle.digests.proofs.lent.count_from.Given as goal

abbrev pub invariant-loop-word : goal.invariant-loop-word
invariant-loop-word l = TabulatedTo (counted_at l.first) l.word-index l.initial.words l.words × (l.next ≡ counted_at l.first l.word-index)
