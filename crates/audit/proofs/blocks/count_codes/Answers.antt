use Prim.Native.Nat.{◌+◌}
use mathlib.Core.Path.{◌≡◌, ◌∙◌}
use native.Mathlib.Omega.{arith}
use lib.Dec.{eqb}
use lib.ListN.{get_or, drop}
use Rattle.audit.specs.Check.{codes_in}
use Rattle.audit.proofs.Counting.{byte_not, codes_from, codes_end, codes_le}
use Rattle.audit.proofs.blocks.count_codes.Goals as goal

pub overflow_add-codes : goal.overflow_add-codes
overflow_add-codes c =
    let counted : c.loop-a.codes + c.from-codes.result + codes_in (drop (c.loop-a.a-index + 1) c.args.part.now) ≡ codes_in c.args.part.now = omega (arith, c.loop-a.invariant, c.from-codes.ensures ∙ byte_not (eqb (get_or c.args.part.now c.loop-a.a-index 0) 0), codes_from c.args.part.now c.loop-a.a-index (omega arith)) in
    omega (arith, counted, codes_le c.args.part.now, c.requires)

pub loop-a-preserved : goal.loop-a-preserved
loop-a-preserved c =
    omega (arith, c.loop-a.invariant, c.from-codes.ensures ∙ byte_not (eqb (get_or c.args.part.now c.loop-a.a-index 0) 0), codes_from c.args.part.now c.loop-a.a-index (omega arith))

pub returns : goal.returns
returns c =
    omega (arith, c.wide.ensures.value, c.loop-a.invariant, codes_end c.args.part.now c.loop-a.a-index (omega arith))
