-- `digests::digest` meets its contract. The invariant: the digest so far is that of the elements so far.
use lib.ListN.{take}
use Rattle.digests.proofs.DigestLaws.{DigestSoFar}
use Rattle.digests.proofs.digest.Given as goal

abbrev pub invariant-loop-number : goal.invariant-loop-number
invariant-loop-number g l = DigestSoFar g.T.Into.converts (take l.number-index l.numbers) l.d
