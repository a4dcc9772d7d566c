-- `placing::take_first` meets its contract. Invariant: the first i numbers are taken, and 0 stands in their cells.
use mathlib.Core.Path.{◌≡◌}
use lib.ListN.{length, get_or}
use Rattle.prelude.proofs.Fills.{Filling}
use Rattle.prelude.proofs.Tabulate.{TabulatedTo}
use Rattle.placing.proofs.take_first.Given as goal

abbrev pub invariant-loop-i : goal.invariant-loop-i
invariant-loop-i l =
    Filling 0 l.initial.cells l.i l.cells
    × (TabulatedTo (λ j. get_or l.initial.cells j 0) l.i l.initial.first l.first
    × ((length l.cells ≡ length l.initial.cells) × (length l.first ≡ length l.initial.first)))
