-- `audit::blocks::count_codes` meets its contract. The loop's invariant: the codes of the cells so far are counted.
use Prim.Native.Nat.{◌+◌}
use mathlib.Core.Path.{◌≡◌}
use lib.ListN.{drop}
use Rattle.audit.specs.Check.{codes_in}
use Rattle.audit.proofs.blocks.count_codes.Given as goal

abbrev pub invariant-loop-a : goal.invariant-loop-a
invariant-loop-a l = l.codes + codes_in (drop l.a-index l.part) ≡ codes_in l.part
