-- A search that tries the multipliers 1, 2, 3, .. by a test. The least one that passes, r, is below p. While k is at most r none before it
-- passes: so a k that passes is r, and a k that fails has one after it. The search needs no end of its own.
use Prim.Native.Nat.{ℕ, ◌+◌, ◌<◌, ◌≤◌}
use native.Mathlib.Decide.{ℕ_discrete, dec_le}
use native.Mathlib.Omega.{arith}
use mathlib.Core.Bool.{Bool, true, false, true≢false}
use mathlib.Core.Path.{◌≡◌, sym, ap, ◌∙◌}
use Rattle.hash.specs.Theorems.{Least}

-- k is to be tried: it is not past the least one that passes
pub record Trying (test : ℕ → Bool) (p r k : ℕ) : Type 0 where
  pub least : Least test p r
  pub from_one : 1 ≤ k
  pub upto : k ≤ r

module _ {test : ℕ → Bool} {p r : ℕ} where
  pub trying_start : Least test p r → Trying test p r 1
  trying_start l = record { least = l; from_one = omega arith; upto = l.from_one }

  pub trying_more : {k : ℕ} → Trying test p r k → test k ≡ false → Trying test p r (k + 1)
  trying_more {k} h fails =
      elim (ℕ_discrete k r) [
        | yes e ↦ absurd (true≢false (sym h.least.passes ∙ ap test (sym e) ∙ fails))
        | no ne ↦ record { least = h.least; from_one = omega arith; upto = omega (arith, h.upto) }
      ]

  pub trying_found : {k : ℕ} → Trying test p r k → test k ≡ true → k ≡ r
  trying_found {k} h passes =
      elim (ℕ_discrete k r) [
        | yes e ↦ e
        | no ne ↦ absurd (true≢false (sym passes ∙ h.least.least k h.from_one (omega (arith, h.upto))))
      ]

  -- all from k on and before m fail: they are passed over
  pub trying_skip : {k m : ℕ} → Trying test p r k → k ≤ m → ((j : ℕ) → k ≤ j → j < m → test j ≡ false) → Trying test p r m
  trying_skip {k} {m} h later fails =
      elim (dec_le m r) [
        | yes le ↦ record { least = h.least; from_one = omega (arith, h.from_one); upto = le }
        | no gt ↦ absurd (true≢false (sym h.least.passes ∙ fails r h.upto (omega arith)))
      ]
