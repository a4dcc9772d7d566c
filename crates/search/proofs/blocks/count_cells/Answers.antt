use mathlib.Core.Path.{refl, sym}
use native.Mathlib.Omega.{arith}
use lib.ListN.{length-set}
use Rattle.search.proofs.Counts.{counting_start, counting_byte, counting_more, counting_over, counting_all, counting_blocked, over_leaves}
use Rattle.search.proofs.blocks.count_cells.Goals as goal

pub loop-i-init : goal.loop-i-init
loop-i-init c = (
  counting_start c.requires.countable.some c.requires.countable.sized.0 c.requires.countable.sized.1 (c.fill.ensures.after (λ y e. e)),
  (refl, refl),
)

pub returns-then-most-c : goal.returns-then-most-c
returns-then-most-c c =
    over_leaves (counting_over c.loop-i.invariant.0 c.loop-i-test.true c.requires.places c.place_of-t.ensures (omega (arith, c.from-m.ensures, c.requires.places)))

pub overflow_cast-counts : goal.overflow_cast-counts
overflow_cast-counts c = record {
  fits = omega (
    arith,
    c.from-m.ensures,
    counting_byte c.loop-i.invariant.0 c.loop-i-test.true c.requires.places c.place_of-t.ensures c.requires.countable.few,
  );
}

pub loop-i-preserved : goal.loop-i-preserved
loop-i-preserved c = (
  rw c.from-m.ensures
      (counting_more c.loop-i.invariant.0 c.loop-i-test.true c.requires.places c.place_of-t.ensures (omega (arith, c.from-m.ensures, c.requires.places))),
  (simp length-set c.loop-i.invariant.1.0, simp length-set c.loop-i.invariant.1.1),
)

pub returns : goal.returns
returns c =
    record {
      answers = sym (counting_all c.loop-i.invariant.0 c.loop-i-test.false (omega arith));
      leaves = λ cells fits. counting_blocked c.loop-i.invariant.0 c.loop-i-test.false;
    }
