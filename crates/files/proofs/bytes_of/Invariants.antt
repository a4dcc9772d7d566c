-- `files::bytes_of` meets its contract. The loop's invariant: the bytes of the first i words are written.
use Rattle.files.proofs.ByteLaws.{BytesSoFar}
use Rattle.files.proofs.bytes_of.Given as goal

abbrev pub invariant-loop-done : goal.invariant-loop-done
invariant-loop-done l = BytesSoFar l.words l.initial.bytes l.n l.done l.bytes
