-- `audit::blocks::list_codes` meets its contract. The loop's invariant: the places below t that hold a code are listed (`ListedBelow`).
use Rattle.audit.proofs.Occupied.{ListedBelow}
use Rattle.audit.proofs.blocks.list_codes.Given as goal

abbrev pub invariant-loop-t : goal.invariant-loop-t
invariant-loop-t l = ListedBelow l.part l.initial.list l.list l.count l.t
