use Rattle.search.proofs.Places.{placing_less, placing_none}
use Rattle.search.proofs.cells.undo.Goals as goal

pub loop-a-preserved : goal.loop-a-preserved
loop-a-preserved c =
    placing_less c.loop-a.invariant c.loop-a-test.true c.place_of-t.result c.place_of-t.ensures.value
    c.place_of-t.ensures.range

pub returns : goal.returns
returns c = placing_none c.loop-a.invariant c.loop-a-test.false
