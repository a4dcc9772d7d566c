-- `files::words_of` meets its contract. The loop's invariant: the first i of the words that fit are written.
use Rattle.files.proofs.WordLaws.{WordsSoFar}
use Rattle.files.proofs.words_of.Given as goal

abbrev pub invariant-loop-i : goal.invariant-loop-i
invariant-loop-i l = WordsSoFar l.bytes l.initial.words l.n l.i l.words
