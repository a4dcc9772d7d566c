-- `jumps::runs::Trial::fill_keys` meets its contract. The loop's invariant is `Keyed`.
use Rattle.jumps.proofs.Keys.{Keyed}
use Rattle.jumps.proofs.runs.Trial.fill_keys.Given as goal

abbrev pub invariant-loop-i : goal.invariant-loop-i
invariant-loop-i l = Keyed l.self.run l.self.codes.now l.i l.keys
