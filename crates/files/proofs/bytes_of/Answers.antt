use Rattle.files.proofs.ByteLaws.{bytes_start, bytes_more}
use Rattle.files.proofs.bytes_of.Goals as goal

pub loop-done-init : goal.loop-done-init
loop-done-init c =
    bytes_start c.min-n.ensures

pub loop-done-preserved : goal.loop-done-preserved
loop-done-preserved c =
    bytes_more c.loop-done.invariant c.loop-done-test.true c.put_word.ensures
