-- Division by a reciprocal, after Granlund and Montgomery: where r * w is P or above it by less than w, and x * w is below P,
-- x * r / P is x / w. In this crate P is 2 ^ 32.
use Prim.Native.Nat.{ℕ, ◌+◌, ◌*◌, ◌/◌, ◌<◌, ◌≤◌}
use mathlib.Core.Path.{◌≡◌}
use native.Mathlib.Nat.{mod-lt, div-add-mod', mul-le-mul_left, mul-le-mul_right, div-eq_of_lt-le, lt_of_mul-lt-mul_right}
use native.Mathlib.Decide.{dec_le}
use native.Mathlib.Omega.{arith}
use borrow.Author.Tests.{le-ltb, lt-ltb}
use Rattle.std.specs.Prelude.{Option, Some}
use Rattle.std.proofs.lemmas.Option.{none-some, same_Some}
use Rattle.hash.specs.code.Contract.{reciprocal_of, Reciprocal, Ready}

-- both bounds of the quotient q, the upper one with both sides times w
divided :
    (P x w r q : ℕ) → P ≤ r * w → r * w + 1 ≤ P + w → x * w < P → q * w ≤ x → x + 1 ≤ (q + 1) * w
    → x * r / P ≡ q
divided P x w r q low high small under over =
    div-eq_of_lt-le P (omega (arith, mul-le-mul_left q low, mul-le-mul_right r under))
    (lt_of_mul-lt-mul_right w (omega (arith, mul-le-mul_left x high, mul-le-mul_right P over)))

-- the quotient by a reciprocal
pub quotient : {p w r : ℕ} (x : ℕ) → 0 < w → Reciprocal p w r → x < p → x * r / 4294967296 ≡ x / w
quotient {p} {w} {r} x pos e below =
    divided 4294967296 x w r (x / w) e.low (omega (arith, e.high)) (omega (arith, mul-le-mul_right w small))
    (omega (arith, div-add-mod' x w)) (omega (arith, div-add-mod' x w, mod-lt x pos))
  where
    small : x ≤ 65536
    small = omega (arith, e.prime)

-- 2 ^ 32 / w rounded up is a reciprocal
pub rounded_up : {p w : ℕ} → 0 < w → p ≤ 65537 → w < 65536 → Reciprocal p w (4294967295 / w + 1)
rounded_up {p} {w} pos prime places =
    record {
      prime = prime;
      places = places;
      low = omega (arith, div-add-mod' 4294967295 w, mod-lt 4294967295 pos);
      high = omega (arith, div-add-mod' 4294967295 w);
    }

-- a precomputed reciprocal is ready for remainders
pub ready : {p w : ℕ} {reciprocal : Option ℕ} → 0 < w → reciprocal ≡ reciprocal_of p w → Ready p w reciprocal
unfolding reciprocal_of
ready {p} {w} pos e =
    elim (dec_le p 65537) [
      | yes prime ↦
          elim (dec_le w 65535) [
            | yes places ↦
                rw (e, le-ltb 65537 p prime, le-ltb 65535 w places)
                (record { positive = pos; exact = λ r is. rw (← same_Some _ r is) (rounded_up pos prime (omega arith)) })
            | no many ↦ rw (e, le-ltb 65537 p prime, lt-ltb 65535 w (omega arith)) (record { positive = pos; exact = λ r is. absurd (none-some r is) })
          ]
      | no large ↦ rw (e, lt-ltb 65537 p (omega arith)) (record { positive = pos; exact = λ r is. absurd (none-some r is) })
    ]

pub ready_quotient :
    {p w r x y : ℕ} {reciprocal : Option ℕ} → Ready p w reciprocal → reciprocal ≡ Some r → x < p → y ≡ x
    → y * r / 4294967296 ≡ x / w
ready_quotient {x = x} ready is below same = rw same (quotient x ready.positive (ready.exact _ is) below)
