-- The least number that passes a test: it is found where one passes, it is the only one that is least, and it depends on the
-- test's answers alone.
use Prim.Native.Nat.{ℕ, zero, suc, ◌+◌, ◌-◌, ◌<◌, ◌≤◌}
use native.Mathlib.Decide.{ℕ_discrete, dec_lt}
use native.Mathlib.Omega.{arith}
use mathlib.Core.Bool.{Bool, true, false, false≢true}
use mathlib.Core.Logic.{inl, inr}
use mathlib.Core.Path.{◌≡◌, refl, sym, ap, ◌∙◌}
use Rattle.hash.specs.Hash.{least_from, least}
use Rattle.hash.specs.Theorems.{Least}
use Rattle.hash.proofs.Indicators.{true_or_false}

least_from_here : (test : ℕ → Bool) (tries k : ℕ) → test k ≡ true → least_from test (suc tries) k ≡ k
unfolding least_from
least_from_here test tries k e = rw (e, least_from)

least_from_next : (test : ℕ → Bool) (tries k : ℕ) → test k ≡ false → least_from test (suc tries) k ≡ least_from test tries (suc k)
unfolding least_from
least_from_next test tries k e = rw (e, least_from)

-- r is the least from k on, below e, that passes
record From (test : ℕ → Bool) (k e r : ℕ) : Type 0 where
  start : k ≤ r
  end : r < e
  passes : test r ≡ true
  before : (j : ℕ) → k ≤ j → j < r → test j ≡ false

-- it is found where some s passes
from_found :
    (test : ℕ → Bool) (tries k s : ℕ) → k ≤ s → s < k + tries → test s ≡ true
    → From test k (k + tries) (least_from test tries k)
from_found test zero k s lo hi e = absurd (omega arith)
from_found test (suc tries) k s lo hi e =
    elim (true_or_false (test k)) [
      | inl here ↦
          rw (least_from_here test tries k here)
          (record { start = omega arith; end = omega arith; passes = here; before = λ j l h. absurd (omega arith) })
      | inr next ↦
          elim (ℕ_discrete k s) [
            | yes same ↦ absurd (false≢true (sym next ∙ ap test same ∙ e))
            | no other ↦
                rw (least_from_next test tries k next)
                (let f : From test (suc k) (suc k + tries) (least_from test tries (suc k)) =
                from_found test tries (suc k) s (omega arith) (omega arith) e in
                record {
                  start = omega arith;
                  end = omega arith;
                  passes = f.passes;
                  before = λ j l h. elim (ℕ_discrete k j) [ yes same ↦ ap test (sym same) ∙ next | no later ↦ f.before j (omega arith) h ];
                })
          ]
    ]

from_ext :
    (test other : ℕ → Bool) (tries k : ℕ) → ((j : ℕ) → k ≤ j → j < k + tries → test j ≡ other j)
    → least_from test tries k ≡ least_from other tries k
unfolding least_from
from_ext test other zero k same = refl
from_ext test other (suc tries) k same =
    let now : test k ≡ other k = same k (omega arith) (omega arith) in
    elim (true_or_false (test k)) [
      | inl here ↦ least_from_here test tries k here ∙ sym (least_from_here other tries k (sym now ∙ here))
      | inr next ↦
          least_from_next test tries k next
          ∙ from_ext test other tries (suc k) (λ j lo hi. same j (omega arith) (omega arith))
          ∙ sym (least_from_next other tries k (sym now ∙ next))
    ]

pub least_found : (test : ℕ → Bool) (p k : ℕ) → 1 ≤ k → k < p → test k ≡ true → Least test p (least test p)
unfolding least
least_found test p k lo hi e =
    let f : From test 1 (1 + (p - 1)) (least_from test (p - 1) 1) = from_found test (p - 1) 1 k lo (omega arith) e in
    record { from_one = f.start; below = omega arith; passes = f.passes; least = f.before }

-- no two are least
least_one : (test : ℕ → Bool) (p r s : ℕ) → Least test p r → Least test p s → r ≡ s
least_one test p r s f g =
    elim (ℕ_discrete r s) [
      | yes same ↦ same
      | no other ↦
          elim (dec_lt r s) [
            | yes l ↦ absurd (false≢true (sym (g.least r f.from_one l) ∙ f.passes))
            | no l ↦ absurd (false≢true (sym (f.least s g.from_one (omega arith)) ∙ g.passes))
          ]
    ]

-- so a search that ends at a least k has found `least`
pub least_unique : (test : ℕ → Bool) (p k : ℕ) → Least test p k → least test p ≡ k
least_unique test p k l = least_one test p (least test p) k (least_found test p k l.from_one l.below l.passes) l

-- two tests that agree from 1 to p - 1 have the same least multiplier
pub least_ext : (test other : ℕ → Bool) (p : ℕ) → ((k : ℕ) → 1 ≤ k → k < p → test k ≡ other k) → least test p ≡ least other p
unfolding least
least_ext test other p same = from_ext test other (p - 1) 1 (λ j lo hi. same j lo (omega arith))
