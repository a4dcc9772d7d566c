-- `generator::generate_for` meets its contract: the length is tested against the limit and both arrays, and then the places are filled.
use mathlib.Core.Logic.{inl, inr}
use native.Mathlib.Omega.{arith}
use Rattle.generator.proofs.Answers.{generated_none, generated_all}
use Rattle.generator.proofs.generate_for.Goals as goal

pub returns-then-wide-length : goal.returns-then-wide-length
returns-then-wide-length c =
    generated_none (inl (omega (arith, c.wide.ensures.value, c.if-wide-length.true)))

pub returns-then-codes-length : goal.returns-then-codes-length
returns-then-codes-length c =
    generated_none (inr (inl c.if-codes-length.true))

pub returns-then-schedules-length : goal.returns-then-schedules-length
returns-then-schedules-length c =
    generated_none (inr (inr c.if-schedules-length.true))

pub returns : goal.returns
returns c =
    generated_all (omega (arith, c.wide.ensures.value, c.if-wide-length.false)) (record { codes_room = c.if-codes-length.false; schedules_room = c.if-schedules-length.false }) c.fill.ensures
