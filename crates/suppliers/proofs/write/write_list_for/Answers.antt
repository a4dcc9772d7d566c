-- `suppliers::write::write_list_for` meets its contract: the tests in the paper's order, and then the lines.
use native.Mathlib.Omega.{arith}
use Rattle.decimal.proofs.Added.{begins}
use Rattle.suppliers.proofs.Writing.{written_unequal, written_many, written_short, written_all}
use Rattle.suppliers.proofs.write.write_list_for.Goals as goal

pub returns-then-codes-schedules : goal.returns-then-codes-schedules
returns-then-codes-schedules c = written_unequal _ _ _ c.if-codes-schedules.true

pub returns-then-limit-codes : goal.returns-then-limit-codes
returns-then-limit-codes c = written_many _ _ _ c.if-codes-schedules.false c.if-limit-codes.true

pub returns-then-text-needed : goal.returns-then-text-needed
returns-then-text-needed c =
    written_short _ _ _ c.if-codes-schedules.false c.if-limit-codes.false (c.pairs_length-needed.ensures 44) c.if-text-needed.true

pub returns : goal.returns
returns c =
    let text = begins {at = 0} (omega (arith, c.pairs_length-needed.ensures 44)) c.put_pairs_before.ensures in
    written_all _ _ _ c.if-codes-schedules.false c.if-limit-codes.false (rw (c.pairs_length-needed.ensures 44) at c.if-text-needed.false) text
