-- `suppliers::scan::fill` meets its contract. Before the turn at i the pairs of the lines before `at` stand in the first i places.
use Rattle.suppliers.proofs.Filling.{Filling}
use Rattle.suppliers.proofs.scan.fill.Given as goal

abbrev pub invariant-loop-i : goal.invariant-loop-i
invariant-loop-i l = Filling l.text l.initial.codes l.initial.schedules l.at l.i l.codes l.schedules
