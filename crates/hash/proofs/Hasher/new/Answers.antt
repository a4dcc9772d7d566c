-- `hash::Hasher::new` meets its contract: the precomputed reciprocal of the number of places is ready for remainders.
use Rattle.hash.proofs.Reciprocals.{ready}
use Rattle.hash.proofs.Hasher.new.Goals as goal

pub invariant_of-result-clause-ready : goal.invariant_of-result-clause-ready
invariant_of-result-clause-ready c = ready c.requires.places_nonzero c.reciprocal.ensures
