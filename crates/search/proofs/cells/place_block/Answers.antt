use mathlib.Core.Path.{◌≡◌, ◌∙◌}
use Rattle.search.specs.code.Cells.{square}
use Rattle.search.proofs.Places.{placing_start, placing_more, placing_stop}
use Rattle.search.proofs.LeastCells.{unplaced_square, unplaced_zeros, tried_stop}
use Rattle.search.proofs.cells.place_block.Goals as goal

pub loop-i-init : goal.loop-i-init
loop-i-init c =
    let square-cells : c.args.h.places ≡ square c.args.block.now = c.requires.places ∙ unplaced_square c.requires.unplaced in
    placing_start (unplaced_zeros c.requires.unplaced square-cells)

pub returns-then-cells-t-ne0 : goal.returns-then-cells-t-ne0
returns-then-cells-t-ne0 c =
    let square-cells : c.args.h.places ≡ square c.args.block.now = c.requires.places ∙ unplaced_square c.requires.unplaced in
    tried_stop c.requires.unplaced square-cells
    (placing_stop c.loop-i.invariant c.requires.unplaced.codes.valid c.loop-i-test.true c.place_of-t.result
    c.place_of-t.ensures.value c.place_of-t.ensures.range c.if-cells-t-ne0.true)
    c.undo.ensures

pub loop-i-preserved : goal.loop-i-preserved
loop-i-preserved c =
    placing_more c.loop-i.invariant c.requires.unplaced.codes.valid c.loop-i-test.true c.place_of-t.result
    c.place_of-t.ensures.value c.place_of-t.ensures.range c.if-cells-t-ne0.false
