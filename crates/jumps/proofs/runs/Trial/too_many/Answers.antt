use Prim.Native.Nat.{ℕ, ◌+◌, ◌*◌, ◌-◌, ◌<◌, ◌≤◌}
use mathlib.Core.List.{List}
use mathlib.Core.Path.{◌≡◌, sym, ap, ◌∙◌}
use native.Mathlib.Omega.{arith}
use borrow.Author.Tests.{lt-ltb}
use lib.ListN.{take, drop, length, get_or, length-drop}
use Rattle.jumps.specs.code.Jumps.{equals, company_of}
use Rattle.jumps.specs.declared.runs.Run.{Run}
use Rattle.jumps.proofs.Keys.{company_short, joined, joined_none, joined_more, joined_drop}
use Rattle.jumps.proofs.Ends.{rest_after}
use Rattle.jumps.proofs.Together.{equals_le}
use Rattle.jumps.proofs.runs.Trial.too_many.Goals as goal

more_short : (run : Run) (keys : List ℕ) (own a i : ℕ) → equals own (drop i keys) + company_of run keys own a ≤ 2 * length keys
more_short run keys own a i = omega (arith, equals_le own (drop i keys), length-drop i keys, company_short run keys own a)

-- those after the next one
counted :
    {r i : ℕ} (x : ℕ) (s : List ℕ) → 0 < i → r ≡ equals x (take (length s - (i - 1 + 1)) (drop (i - 1 + 1) s)) → r ≡ equals x (drop i s)
counted {r} {i} x s pos e = e ∙ ap (equals x) (rest_after s i pos)

pub loop-i-init : goal.loop-i-init
loop-i-init c = (omega arith, (omega arith, sym (joined_none c.args.self.run c.args.keys.now c.args.keys.now c.args.self.codes.now)))

pub overflow_add-pairs : goal.overflow_add-pairs
overflow_add-pairs c =
    omega (
      arith,
      more_short c.args.self.run c.args.keys.now (get_or c.args.keys.now (c.loop-i.i - 1) 0) (get_or c.args.self.codes.now (c.loop-i.i - 1) 0) c.loop-i.i,
      counted _ _ c.loop-i-test.true c.equals.ensures,
      c.company.ensures,
      c.requires,
      c.args.self.runs.short,
    )

pub overflow_add-pairs-in-loop-i : goal.overflow_add-pairs-in-loop-i
overflow_add-pairs-in-loop-i c =
    omega (
      arith,
      more_short c.args.self.run c.args.keys.now (get_or c.args.keys.now (c.loop-i.i - 1) 0) (get_or c.args.self.codes.now (c.loop-i.i - 1) 0) c.loop-i.i,
      counted _ _ c.loop-i-test.true c.equals.ensures,
      c.company.ensures,
      c.requires,
      c.args.self.runs.short,
      c.loop-i.invariant.1.0,
      c.args.self.runs.bounded,
    )

pub returns-then-self-pairs : goal.returns-then-self-pairs
returns-then-self-pairs c =
    sym (lt-ltb c.args.self.run.most (joined c.args.self.run c.args.keys.now c.args.keys.now c.args.self.codes.now) (omega (
      arith,
      c.loop-i.invariant.1.1,
      counted _ _ c.loop-i-test.true c.equals.ensures,
      c.company.ensures,
      c.if-self-pairs.true,
      joined_more c.args.self.run c.args.keys.now c.args.keys.now c.args.self.codes.now c.loop-i.i c.requires (omega arith) c.loop-i.invariant.0,
      joined_drop c.args.self.run c.args.keys.now c.args.keys.now c.args.self.codes.now (c.loop-i.i - 1),
    )))

pub loop-i-preserved : goal.loop-i-preserved
loop-i-preserved c = (
  omega (arith, c.loop-i.invariant.0),
  (
    c.if-self-pairs.false,
    omega (
      arith,
      c.loop-i.invariant.1.1,
      counted _ _ c.loop-i-test.true c.equals.ensures,
      c.company.ensures,
      joined_more c.args.self.run c.args.keys.now c.args.keys.now c.args.self.codes.now c.loop-i.i c.requires (omega arith) c.loop-i.invariant.0,
    ),
  ),
)
