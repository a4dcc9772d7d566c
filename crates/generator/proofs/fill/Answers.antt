use Rattle.generator.proofs.Filling.{Next, filling_none, next}
use Rattle.generator.proofs.fill.Goals as goal

pub loop-i-init : goal.loop-i-init
loop-i-init c =
    filling_none c.requires

pub next_schedule-schedule-requires : goal.next_schedule-schedule-requires
next_schedule-schedule-requires c =
    let known : Next c.args.length c.args.codes.now c.args.schedules.now c.loop-i.i c.loop-i.schedule c.loop-i.codes c.loop-i.schedules
    c.residue-code.result = next c.requires c.loop-i.invariant c.loop-i-test.true c.residue-code.ensures in
    known.schedule_most

pub loop-i-preserved : goal.loop-i-preserved
loop-i-preserved c =
    let known : Next c.args.length c.args.codes.now c.args.schedules.now c.loop-i.i c.loop-i.schedule c.loop-i.codes c.loop-i.schedules
    c.residue-code.result = next c.requires c.loop-i.invariant c.loop-i-test.true c.residue-code.ensures in
    known.filling _ c.next_schedule-schedule.ensures
