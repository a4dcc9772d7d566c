-- `suppliers::read::read_list` meets its contract: the lines are judged, the places counted, and then both arrays filled.
use native.Mathlib.Omega.{arith}
use Rattle.std.proofs.lemmas.Result.{err_from_is_err_and}
use Rattle.suppliers.proofs.Answers.{read_faulty, fillable, read_short, read_all}
use Rattle.suppliers.proofs.read.read_list.Goals as goal

pub returns-in_err-lines : goal.returns-in_err-lines
returns-in_err-lines c =
    let p = err_from_is_err_and c.from_residual.result c.from_residual.ensures.1 in
    rw (p.1, p.2) (read_faulty _ _ c.in_err-lines.ensures _ _)

pub returns-then-room-lines : goal.returns-then-room-lines
returns-then-room-lines c =
    read_short _ c.in_ok-lines.ensures _ _ (omega (arith, c.min-room.ensures))

pub fill-requires : goal.fill-requires
fill-requires c =
    fillable _ c.in_ok-lines.ensures _ _ (omega (arith, c.min-room.ensures))

pub returns : goal.returns
returns c =
    read_all _ c.in_ok-lines.ensures _ _ (omega (arith, c.min-room.ensures)) c.fill.ensures
