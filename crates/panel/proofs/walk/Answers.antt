use mathlib.Core.Path.{◌≡◌, ◌∙◌, sym}
use native.Mathlib.Omega.{arith}
use borrow.Author.Tests.{eq-eqb}
use Rattle.lookup.proofs.Tells.{schedule_range}
use Rattle.panel.specs.Fired.{panel_error_of}
use Rattle.panel.specs.Panel.{walk_of}
use Rattle.panel.proofs.Walking.{walk_on, walk_over, walk_ends, ended_at, there, hold_there}
use Rattle.panel.proofs.walk.Goals as goal

pub returns-in_default : goal.returns-in_default
returns-in_default c =
    let (ends, is) = ended_at c.args.holds.now _ _ c.in_default.field-0 c.in_default.ensures in
    let walked : panel_error_of c.in_default.field-0 ≡ walk_of c.args.h.prime c.args.limit c.args.words.now c.args.holds.now c.args.codes.now =
    is ∙ walk_ends _ _ _ _ _ _ _ c.loop-i-test.true c.loop-i.invariant.none_ends c.lookup_in.ensures ends in
    rw c.in_default.is walked

pub overflow_sub-hold : goal.overflow_sub-hold
overflow_sub-hold c =
    let range = schedule_range _ _ _ _ _ _ (there _ _ _ _ _ c.lookup_in.ensures c.in-Ok.ensures) in
    omega (arith, range.0, c.wide.ensures.value)

pub bounds-holds-wide : goal.bounds-holds-wide
bounds-holds-wide c =
    let range = schedule_range _ _ _ _ _ _ (there _ _ _ _ _ c.lookup_in.ensures c.in-Ok.ensures) in
    omega (arith, range.1, c.wide.ensures.value, c.requires.holds_len)

pub returns-then-hold-eq0 : goal.returns-then-hold-eq0
returns-then-hold-eq0 c =
    walk_ends _ _ _ _ _ _ _ c.loop-i-test.true c.loop-i.invariant.none_ends
    (sym (there _ _ _ _ _ c.lookup_in.ensures c.in-Ok.ensures))
    (eq-eqb _ _ (sym (hold_there c.args.holds.now c.wide.ensures.value) ∙ c.if-hold-eq0.true))

pub loop-i-preserved : goal.loop-i-preserved
loop-i-preserved c =
    walk_on _ _ _ _ _ _ _ _ c.loop-i.invariant (there _ _ _ _ _ c.lookup_in.ensures c.in-Ok.ensures)
    (hold_there c.args.holds.now c.wide.ensures.value) c.if-hold-eq0.false c.decide-decided.ensures

pub returns : goal.returns
returns c =
    sym (walk_over _ _ _ _ _ _ _ c.requires.codes_len.0 (omega (arith, c.loop-i-test.false)) c.loop-i.invariant)
