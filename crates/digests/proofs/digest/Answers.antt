use Rattle.std.proofs.lemmas.List.{take_more}
use Rattle.digests.proofs.DigestLaws.{digest_start, digest_more}
use Rattle.digests.proofs.digest.Goals as goal

pub loop-number-init : goal.loop-number-init
loop-number-init g c = digest_start

pub loop-number-preserved : goal.loop-number-preserved
loop-number-preserved g c =
    rw (take_more c.args.numbers.now c.loop-number.number-index c.number-item.result c.loop-number-test.true, ← c.number-item.is, c.from.ensures)
    (digest_more c.loop-number.invariant c.into-x.ensures)
