use Prim.Native.Nat.{◌+◌}
use mathlib.Core.Path.{◌≡◌}
use native.Mathlib.Omega.{arith}
use lib.ListN.{get_or, drop}
use Rattle.reader.specs.code.Gathering.{other_count}
use Rattle.reader.proofs.Gathering.{counts, count_le, count_from, count_end}
use Rattle.editor.proofs.changes.count_cells.Goals as goal

pub overflow_add-count : goal.overflow_add-count
overflow_add-count c =
    let counted : c.loop-a.count + c.from-count.result + other_count c.args.code (drop (c.loop-a.a-index + 1) c.args.cells.now)
    ≡ other_count c.args.code c.args.cells.now = omega (arith, c.loop-a.invariant, counts c.args.code (get_or c.args.cells.now c.loop-a.a-index 0) c.from-count.ensures c.is_other.ensures, count_from c.args.code c.args.cells.now c.loop-a.a-index (omega arith)) in
    omega (arith, counted, count_le c.args.code c.args.cells.now, c.requires)

pub loop-a-preserved : goal.loop-a-preserved
loop-a-preserved c =
    omega (arith, c.loop-a.invariant, counts c.args.code (get_or c.args.cells.now c.loop-a.a-index 0) c.from-count.ensures c.is_other.ensures, count_from c.args.code c.args.cells.now c.loop-a.a-index (omega arith))

pub returns : goal.returns
returns c =
    omega (arith, c.loop-a.invariant, count_end c.args.code c.args.cells.now c.loop-a.a-index (omega arith))
