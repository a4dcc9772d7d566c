use native.Mathlib.Omega.{arith}
use Rattle.suppliers.proofs.Filling.{filling_none, code_inside, schedule_inside, next}
use Rattle.suppliers.proofs.scan.fill.Goals as goal

pub loop-i-init : goal.loop-i-init
loop-i-init c =
    filling_none _ _ _

pub scan_number-code-requires : goal.scan_number-code-requires
scan_number-code-requires c =
    code_inside c.requires c.loop-i.invariant c.loop-i-test.true

pub overflow_add-code : goal.overflow_add-code
overflow_add-code c =
    omega (arith, c.scan_number-code.ensures.end, (code_inside c.requires c.loop-i.invariant c.loop-i-test.true).inside)

pub scan_number-schedule-requires : goal.scan_number-schedule-requires
scan_number-schedule-requires c =
    schedule_inside c.requires c.loop-i.invariant c.loop-i-test.true c.scan_number-code.ensures

pub overflow_cast-codes : goal.overflow_cast-codes
overflow_cast-codes c =
    let known = next c.requires c.loop-i.invariant c.loop-i-test.true c.scan_number-code.ensures c.scan_number-schedule.ensures in
    omega (arith, known.code_word, known.schedule_word)

pub overflow_cast-schedules : goal.overflow_cast-schedules
overflow_cast-schedules c =
    let known = next c.requires c.loop-i.invariant c.loop-i-test.true c.scan_number-code.ensures c.scan_number-schedule.ensures in
    omega (arith, known.code_word, known.schedule_word)

pub overflow_add-at : goal.overflow_add-at
overflow_add-at c =
    let known = next c.requires c.loop-i.invariant c.loop-i-test.true c.scan_number-code.ensures c.scan_number-schedule.ensures in
    omega (arith, known.inside)

pub loop-i-preserved : goal.loop-i-preserved
loop-i-preserved c =
    let known = next c.requires c.loop-i.invariant c.loop-i-test.true c.scan_number-code.ensures c.scan_number-schedule.ensures in
    known.filling
