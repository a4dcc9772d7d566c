-- `placing::place_codes` meets its contract. The loop's invariant: the codes from i on are `Placed` in their cells, and their places noted.
use mathlib.Core.Path.{◌≡◌}
use lib.ListN.{length, get_or}
use Rattle.hash.specs.Hash.{hash_of}
use Rattle.placing.proofs.Placing.{Placed, NotedFrom}
use Rattle.placing.proofs.place_codes.Given as goal

abbrev pub invariant-loop-i : goal.invariant-loop-i
invariant-loop-i l =
    let f = hash_of l.h.prime l.h.multiplier l.h.places in
    Placed f l.h.places l.block l.block l.i l.cells
    × (NotedFrom (λ j. f (get_or l.block j 0)) l.i l.places
    × ((length l.places ≡ length l.initial.places) × (length l.cells ≡ length l.initial.cells)))
