-- `repeats::first_in_few` meets its contract. Invariant: no code before i is repeated.
use Rattle.prelude.proofs.First.{Below}
use Rattle.repeats.specs.Repeated.{repeated}
use Rattle.repeats.proofs.first_in_few.Given as goal

abbrev pub invariant-loop-i : goal.invariant-loop-i
invariant-loop-i l = Below (repeated l.codes) l.i
