-- `search::cells::collide` meets its contract: the hashes are the residues mod 4.
use mathlib.Core.Path.{refl}
use Rattle.hash.specs.Hash.{hash_of}
use Rattle.search.proofs.cells.collide.Goals as goal

pub returns : goal.returns
unfolding hash_of
returns c = rw (c.residue-2.ensures.value, c.residue.ensures.value) refl
