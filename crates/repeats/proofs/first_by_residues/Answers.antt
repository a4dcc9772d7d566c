use mathlib.Core.Bool.{true}
use mathlib.Core.Path.{◌≡◌, sym, ◌∙◌}
use native.Mathlib.Omega.{arith}
use Rattle.std.proofs.Common.{rules}
use Rattle.hash.proofs.BitSets.{single_is}
use Rattle.prelude.proofs.First.{below_next}
use Rattle.prelude.proofs.Where.{where_found, where_none}
use Rattle.repeats.specs.Repeated.{repeated}
use Rattle.repeats.proofs.Residues.{residues_more, residues_new}
use Rattle.repeats.proofs.first_by_residues.Goals.{then-collides+else-again+else-left-eq0, else-collides}
use Rattle.repeats.proofs.first_by_residues.Goals as goal

pub returns-then-again : goal.returns-then-again
returns-then-again c =
    let is : repeated c.args.codes.now c.loop-i.i ≡ true = search rules in
    sym (where_found _ _ c.loop-i.i c.loop-i-test.true c.loop-i.invariant.1 is)

pub loop-i-preserved : goal.loop-i-preserved
loop-i-preserved c =
    let value = c.wide-residue.ensures.value in
    let bit = single_is _ (omega arith) in (
      rw value (residues_more c.loop-i.invariant.0 _ bit),
      below_next _ c.loop-i.i c.loop-i.invariant.1
          (elim c.if-collides.branch [
            | then-collides+else-again+else-left-eq0 w ↦ sym w.is_repeated-again.ensures ∙ w.if-again.false
            | else-collides w ↦ residues_new c.loop-i.invariant.0 _ bit c.loop-i-test.true (rw value at w.if-collides.false)
          ]),
    )

pub returns : goal.returns
returns c = sym (where_none _ _ (λ j l. c.loop-i.invariant.1 j (omega (arith, c.loop-i-test.false))))
