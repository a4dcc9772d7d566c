use native.Mathlib.Omega.{arith}
use mathlib.Core.Path.{◌∙◌}
use lib.Dec.{eqb}
use lib.ListN.{get_or}
use Rattle.audit.proofs.Counting.{byte_not}
use Rattle.audit.proofs.Occupied.{listed_none, listed_next, listed_all}
use Rattle.audit.proofs.blocks.list_codes.Goals as goal

pub loop-t-init : goal.loop-t-init
loop-t-init c =
    listed_none _ _

pub loop-t-preserved : goal.loop-t-preserved
loop-t-preserved c =
    rw (c.from-count.ensures ∙ byte_not (eqb (get_or c.args.part.now c.loop-t.t 0) 0))
    (listed_next _ _ _ _ c.loop-t.t (omega arith) (omega (arith, c.loop-t.invariant.long)) c.loop-t.invariant)

pub returns : goal.returns
returns c =
    listed_all _ _ _ _ _ (omega arith) c.requires.part_in_bounds c.loop-t.invariant
