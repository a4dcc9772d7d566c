use Prim.Native.Nat.{ℕ}
use mathlib.Core.Path.{sym, ap, ◌∙◌}
use native.Mathlib.Omega.{arith}
use borrow.Author.Tests.{ltb-true}
use mathlib.Core.List.{List}
use lib.Dec.{ltb}
use lib.ListN.{length}
use Rattle.jumps.specs.code.Jumps.{run_from}
use Rattle.jumps.proofs.Keys.{keys_fail, keys_sized, joined}
use Rattle.jumps.proofs.Passing.{runs_on}
use Rattle.jumps.proofs.runs.Trial.failing.Goals as goal

pub returns-then-too_many : goal.returns-then-too_many
returns-then-too_many c =
    let failed =
    keys_fail (runs_on c.args.self.runs c.args.self.ends c.args.self.run.first c.loop-reach.reach)
    (ltb-true _ _ (
    ap (λ (s : List ℕ). ltb c.args.self.run.most (joined (run_from c.args.self.run c.args.self.run.step c.args.self.run.first c.loop-reach.reach) s s c.args.self.codes.now))
    (sym c.fill_keys.ensures)
    ∙ sym c.too_many.ensures
    ∙ c.if-too_many.true
    )) in
    (record { within = omega (arith, failed.within, c.loop-reach.invariant.0); over = failed.over }, ap length c.fill_keys.ensures ∙ keys_sized _ _)
