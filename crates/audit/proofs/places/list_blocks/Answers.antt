use Prim.Native.Nat.{ℕ, ◌+◌, ◌-◌}
use mathlib.Core.Bool.{cond}
use mathlib.Core.Path.{◌≡◌, refl, ap, ◌∙◌}
use native.Mathlib.Omega.{arith}
use lib.Dec.{eqb, ltb}
use lib.ListN.{length-set}
use Rattle.prelude.specs.code.Choice.{chosen}
use Rattle.prelude.proofs.Choosing.{choosing_more}
use Rattle.audit.specs.code.Places.{cells_of}
use Rattle.audit.proofs.Counting.{byte_is, byte_le}
use Rattle.audit.proofs.places.list_blocks.Goals as goal

pub loop-t-init : goal.loop-t-init
unfolding chosen
loop-t-init c =
    record {
      upto = omega arith;
      ones_long = refl;
      more_long = refl;
      ones_within = omega arith;
      more_within = omega arith;
      ones_are = refl;
      more_are = refl;
    }

pub loop-t-preserved : goal.loop-t-preserved
loop-t-preserved c =
    let cells : ℕ = c.block_end.result - c.block_start.result in
    let cells_is : cells ≡ cells_of c.args.words.now (c.args.from + c.loop-t.t) = omega (arith, c.block_start.ensures, c.block_end.ensures) in
    record {
      upto = omega arith;
      ones_long = simp length-set c.loop-t.invariant.ones_long;
      more_long = simp length-set c.loop-t.invariant.more_long;
      ones_within = omega (arith, c.loop-t.invariant.ones_within, c.from-a.ensures, byte_le (eqb cells 1));
      more_within = omega (arith, c.loop-t.invariant.more_within, c.from-b.ensures, byte_le (ltb 1 cells));
      ones_are =
          choosing_more (λ t. eqb (cells_of c.args.words.now (c.args.from + t)) 1) c.loop-t.t c.loop-t.a c.from-a.result c.loop-t.ones c.loop-t.invariant.ones_are
          (omega (arith, c.loop-t.invariant.ones_within, c.loop-t.invariant.ones_long, c.requires.to_bound))
          (c.from-a.ensures ∙ byte_is (eqb cells 1) ∙ ap (λ (x : ℕ). cond (eqb x 1) 1 0) cells_is);
      more_are =
          choosing_more (λ t. ltb 1 (cells_of c.args.words.now (c.args.from + t))) c.loop-t.t c.loop-t.b c.from-b.result c.loop-t.more c.loop-t.invariant.more_are
          (omega (arith, c.loop-t.invariant.more_within, c.loop-t.invariant.more_long, c.requires.to_bound))
          (c.from-b.ensures ∙ byte_is (ltb 1 cells) ∙ ap (λ (x : ℕ). cond (ltb 1 x) 1 0) cells_is);
    }
