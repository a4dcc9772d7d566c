-- `placing::scatter` meets its contract. The loop's invariant is `Placed`, a place being its own: the values from i on are in their cells.
use mathlib.Core.Path.{◌≡◌}
use lib.ListN.{length}
use Rattle.placing.proofs.Placing.{Placed}
use Rattle.placing.proofs.scatter.Given as goal

abbrev pub invariant-loop-i : goal.invariant-loop-i
invariant-loop-i l = Placed (λ t. t) (length l.initial.cells) l.places l.values l.i l.cells × (length l.cells ≡ length l.initial.cells)
