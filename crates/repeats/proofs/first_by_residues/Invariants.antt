-- `repeats::first_by_residues` meets its contract. Invariant: the residue of each code before i is in the bit set, and none of these codes is repeated.
use Rattle.prelude.proofs.First.{Below}
use Rattle.repeats.specs.Repeated.{repeated}
use Rattle.repeats.proofs.Residues.{ResiduesTaken}
use Rattle.repeats.proofs.first_by_residues.Given as goal

abbrev pub invariant-loop-i : goal.invariant-loop-i
invariant-loop-i l = ResiduesTaken l.codes l.i l.taken × Below (repeated l.codes) l.i
