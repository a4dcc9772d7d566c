use Rattle.files.proofs.WordLaws.{words_start, words_more}
use Rattle.files.proofs.words_of.Goals as goal

pub loop-i-init : goal.loop-i-init
loop-i-init c =
    words_start c.min-n.ensures

pub loop-i-preserved : goal.loop-i-preserved
loop-i-preserved c =
    words_more c.loop-i.invariant c.loop-i-test.true c.word_at.ensures
