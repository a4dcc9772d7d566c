use Prim.Native.Nat.{ℕ, ◌+◌}
use mathlib.Core.Bool.{◌||◌}
use mathlib.Core.Path.{◌≡◌, ap, ap₂, ◌∙◌}
use native.Mathlib.Omega.{arith}
use Rattle.prelude.specs.Answers.{some}
use Rattle.prelude.proofs.Some.{some_upto, some_end}
use Rattle.table.specs.Words.{code_count}
use Rattle.audit.specs.code.Places.{unsound}
use Rattle.audit.proofs.places.any_unsound.Goals as goal

pub loop-from-preserved : goal.loop-from-preserved
loop-from-preserved c =
    let to : c.min.result ≡ c.loop-from.from + 32 = omega arith in (
      omega (arith, c.wide-n.ensures.value),
      ap₂ ◌||◌ c.loop-from.invariant.1 c.run_unsound-found.ensures
          ∙ some_upto c.loop-from.from c.min.result _ (omega arith)
          ∙ ap (λ (n : ℕ). some n (unsound c.args.h.prime c.args.words.now)) to,
    )

pub returns : goal.returns
returns c = some_end _ _ _ c.loop-from.invariant.0 (omega (arith, c.wide-n.ensures.value)) c.loop-from.invariant.1

-- the last run
pub returns-2 : goal.returns-2
returns-2 c =
    let to : c.min.result ≡ code_count c.args.words.now = omega (arith, c.wide-n.ensures.value) in
    ap₂ ◌||◌ c.loop-from.invariant.1 c.run_unsound-found.ensures
    ∙ some_upto c.loop-from.from c.min.result _ (omega arith)
    ∙ ap (λ (n : ℕ). some n (unsound c.args.h.prime c.args.words.now)) to
