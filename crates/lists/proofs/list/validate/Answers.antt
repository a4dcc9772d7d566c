-- `lists::list::validate` meets its contract: its tests are the definition's, in the same order.
use mathlib.Core.Path.{sym, ◌∙◌}
use Rattle.std.proofs.Common.{rules}
use Rattle.prelude.proofs.Where.{where_position, where_some, where_default}
use Rattle.lists.specs.List.{bad_code, bad_schedule}
use Rattle.lists.proofs.Refusals.{lengths_differ, too_many_pairs, bad_code_lem, bad_schedule_lem, repeated_code, none_holds}
use Rattle.lists.proofs.list.validate.Goals as goal

pub returns-then-n-schedules : goal.returns-then-n-schedules
returns-then-n-schedules c = lengths_differ _ _ _ _ _ c.if-n-schedules.true

pub returns-then-wide-n : goal.returns-then-wide-n
returns-then-wide-n c = search (rules, too_many_pairs)

pub returns-in-Some : goal.returns-in-Some
unfolding bad_code
returns-in-Some c =
    bad_code_lem _ _ _ _ _ c.if-n-schedules.false (search rules) _ (where_some _ _ (sym (c.first_outside.ensures ∙ where_position _ _ 0) ∙ c.in-Some.is))

pub returns-in-Some-first_outside : goal.returns-in-Some-first_outside
unfolding bad_code bad_schedule
returns-in-Some-first_outside c =
    bad_schedule_lem _ _ _ _ _ c.if-n-schedules.false (search rules)
    (where_default _ _ (c.first_outside.ensures ∙ where_position _ _ 0) c.in_default.not-Some)
    _ (where_some _ _ (sym (c.first_outside-2.ensures ∙ where_position _ _ 0) ∙ c.in-Some-first_outside.is))

pub returns-in-Some-first_repeated : goal.returns-in-Some-first_repeated
unfolding bad_code bad_schedule
returns-in-Some-first_repeated c =
    repeated_code _ _ _ _ _ c.if-n-schedules.false (search rules)
    (where_default _ _ (c.first_outside.ensures ∙ where_position _ _ 0) c.in_default.not-Some)
    (where_default _ _ (c.first_outside-2.ensures ∙ where_position _ _ 0) c.in_default-first_outside.not-Some)
    _ (where_some _ _ (sym c.first_repeated.ensures ∙ c.in-Some-first_repeated.is))

pub returns : goal.returns
unfolding bad_code bad_schedule
returns c =
    none_holds _ _ _ _ _ c.if-n-schedules.false (search rules)
    (where_default _ _ (c.first_outside.ensures ∙ where_position _ _ 0) c.in_default.not-Some)
    (where_default _ _ (c.first_outside-2.ensures ∙ where_position _ _ 0) c.in_default-first_outside.not-Some)
    (where_default _ _ c.first_repeated.ensures c.in_default-first_repeated.not-Some)
