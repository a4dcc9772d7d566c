-- `compare_texts::main` is safe and ends. The measure is how many bytes are left, which each case makes less.
use lib.ListN.{length}
use Rattle.compare_texts.proofs.main.Given as goal

abbrev pub decreases-loop-next : goal.decreases-loop-next
decreases-loop-next l = length l.rest
