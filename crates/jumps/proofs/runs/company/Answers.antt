-- `jumps::runs::company` meets its contract.
use mathlib.Core.Path.{◌∙◌}
use Rattle.jumps.proofs.Straight.{once_is}
use Rattle.jumps.proofs.Keys.{company_straight, company_none, company_empty, company_fewer}
use Rattle.jumps.proofs.runs.company.Goals as goal

pub returns-then-own-lt2147483648 : goal.returns-then-own-lt2147483648
returns-then-own-lt2147483648 c = company_straight c.args.run c.args.keys.now c.args.own c.args.a c.if-own-lt2147483648.true

pub returns-then-not-wraps_at_most : goal.returns-then-not-wraps_at_most
returns-then-not-wraps_at_most c =
    company_none c.args.run c.args.keys.now c.args.own c.args.a c.if-own-lt2147483648.false c.residue-r.ensures.value c.residue-s.ensures.value
    (c.wraps_at_most.ensures ∙ once_is _ _ _ _) c.if-not-wraps_at_most.true

pub returns-then-before-eq0 : goal.returns-then-before-eq0
returns-then-before-eq0 c =
    company_empty c.args.run c.args.keys.now c.args.own c.args.a c.if-own-lt2147483648.false c.residue-r.ensures.value c.residue-s.ensures.value
    (c.wraps_at_most.ensures ∙ once_is _ _ _ _) c.if-not-wraps_at_most.false c.turn-by.ensures.0 c.equals-before.ensures c.if-before-eq0.true

pub returns : goal.returns
returns c =
    company_fewer c.args.run c.args.keys.now c.args.own c.args.a c.if-own-lt2147483648.false c.residue-r.ensures.value c.residue-s.ensures.value
    (c.wraps_at_most.ensures ∙ once_is _ _ _ _) c.if-not-wraps_at_most.false c.turn-by.ensures.0 c.wrapped.ensures.0
    c.equals-before.ensures c.equals-later.ensures c.min.ensures
