-- `jumps::runs::key` meets its contract.
use mathlib.Core.Path.{◌∙◌}
use Rattle.jumps.proofs.Straight.{straight_is}
use Rattle.jumps.proofs.Keys.{key_leaves, key_alone, key_moves}
use Rattle.jumps.proofs.runs.key.Goals as goal

pub returns-then-not-wraps_at_most : goal.returns-then-not-wraps_at_most
returns-then-not-wraps_at_most c =
    key_leaves c.args.run c.args.a c.residue-r.ensures.value c.residue-s.ensures.value (c.wraps_at_most.ensures ∙ straight_is _ _ _ _) c.args.i c.if-not-wraps_at_most.true

pub returns-then-run-eq0 : goal.returns-then-run-eq0
returns-then-run-eq0 c =
    key_alone c.args.run c.args.a c.residue-r.ensures.value c.residue-s.ensures.value (c.wraps_at_most.ensures ∙ straight_is _ _ _ _) c.args.i
    c.if-not-wraps_at_most.false c.if-run-eq0.true

pub returns : goal.returns
returns c =
    key_moves c.args.run c.args.a c.residue-r.ensures.value c.residue-s.ensures.value (c.wraps_at_most.ensures ∙ straight_is _ _ _ _) c.args.i c.turn.result
    c.if-not-wraps_at_most.false c.if-run-eq0.false c.turn.ensures.0
