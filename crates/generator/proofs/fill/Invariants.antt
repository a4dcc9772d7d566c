-- `generator::fill` meets its contract. Before the turn at i the first i places of both arrays hold the load, `code` is 75 to the power i, reduced, and
-- `schedule` is schedule i.
use Rattle.generator.proofs.Filling.{Filling}
use Rattle.generator.proofs.fill.Given as goal

abbrev pub invariant-loop-i : goal.invariant-loop-i
invariant-loop-i l =
    Filling l.length l.initial.codes l.initial.schedules l.i l.code l.schedule l.codes l.schedules
