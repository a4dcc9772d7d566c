-- The parts of a start, over plain lists and numbers: the least and the largest code, the common step, and the first multiplier that is left.
use Prim.Native.Nat.{ℕ, min, max, ◌+◌, ◌*◌, ◌-◌, ◌/◌, ◌%◌, ◌<◌, ◌≤◌}
use native.Mathlib.Decide.{ℕ_discrete}
use native.Mathlib.Nat.{mod_self, mod-one, zero-mod, div-add-mod', div-mul-le_self, mul-pos, mul-le-mul_right, le_refl, min-le_left, min-le_right, le-max_left, le-max_right}
use native.Mathlib.Omega.{arith}
use mathlib.Core.List.{List}
use mathlib.Core.Path.{◌≡◌, ap, ◌∙◌}
use lib.ListN.{length, get_or}
use Rattle.hash.proofs.Primes.{mod_same, mod_zero_mul}
use Rattle.jumps.specs.code.Starts.{Between, Divisor, CommonStep, Before}

-- ---- the least and the largest

-- every code so far is between them
pub record Spanned (codes : List ℕ) (i low high : ℕ) : Type 0 where
  pub left : i ≤ length codes
  pub from_low : (j : ℕ) → j < i → low ≤ get_or codes j 0
  pub to_high : (j : ℕ) → j < i → get_or codes j 0 ≤ high

pub spanned_more :
    {codes : List ℕ} {i low high l h : ℕ} → Spanned codes i low high → i < length codes → l ≡ min low (get_or codes i 0) → h ≡ max high (get_or codes i 0)
    → Spanned codes (i + 1) l h
spanned_more {codes} {i} {low} {high} {l} {h} so less least most =
    record {
      left = omega arith;
      from_low = λ j before.
          elim (ℕ_discrete j i) [
            | yes e ↦ rw e (omega (arith, least, min-le_right low (get_or codes i 0)))
            | no ne ↦ omega (arith, least, min-le_left low (get_or codes i 0), so.from_low j (omega arith))
          ];
      to_high = λ j before.
          elim (ℕ_discrete j i) [
            | yes e ↦ rw e (omega (arith, most, le-max_right high (get_or codes i 0)))
            | no ne ↦ omega (arith, most, le-max_left high (get_or codes i 0), so.to_high j (omega arith))
          ];
    }

pub spanned_all : {codes : List ℕ} {i low high : ℕ} → Spanned codes i low high → length codes ≤ i → Between low high codes
spanned_all so end = record { from_low = λ j l. so.from_low j (omega arith); to_high = λ j l. so.to_high j (omega arith) }

-- ---- common divisors

-- Euclid's algorithm: what divides the current numbers divides the first
pub record Euclid (a b x y : ℕ) : Type 0 where
  pub some : 0 < x
  pub divides : (d : ℕ) → x % d ≡ 0 → y % d ≡ 0 → (a % d ≡ 0) × (b % d ≡ 0)

pub euclid_start : {a b : ℕ} → 0 < a → Euclid a b a b
euclid_start pos = record { some = pos; divides = λ d l r. (l, r) }

-- d divides x where it divides y and what y leaves of x
mod_back : (x y d : ℕ) → y % d ≡ 0 → (x % y) % d ≡ 0 → x % d ≡ 0
mod_back x y d l r =
    mod_same d x 0 0 (x / y * (y / d) + (x % y) / d)
    (omega (arith, div-add-mod' x y, ap (λ (n : ℕ). x / y * n) (mod_zero_mul y d l), mod_zero_mul (x % y) d r))
    ∙ zero-mod d

pub euclid_more : {a b x y : ℕ} → Euclid a b x y → 0 < y → Euclid a b y (x % y)
euclid_more {a} {b} {x} {y} so pos = record { some = pos; divides = λ d l r. so.divides d (mod_back x y d l r) l }

pub euclid_all : {a b x y : ℕ} → Euclid a b x y → y ≤ 0 → Divisor a b x
euclid_all {a} {b} {x} {y} so end =
    let none : y ≡ 0 = omega arith in
    let both : (a % x ≡ 0) × (b % x ≡ 0) = so.divides x (mod_self x) (ap (λ (n : ℕ). n % x) none ∙ zero-mod x) in
    record { some = so.some; left = both.0; right = both.1 }

-- e divides the places and the differences so far
pub record Stepped (w low : ℕ) (codes : List ℕ) (i e : ℕ) : Type 0 where
  pub left : i ≤ length codes
  pub some : 0 < e
  pub count : w % e ≡ 0
  pub each : (j : ℕ) → j < i → (get_or codes j 0 - low) % e ≡ 0

pub stepped_start : {w low : ℕ} {codes : List ℕ} → 0 < w → Stepped w low codes 0 w
stepped_start {w} {low} {codes} pos =
    record { left = omega arith; some = pos; count = mod_self w; each = λ j l. absurd (omega arith) }

-- what divides e divides all that e does
mod_down : (x e d : ℕ) → x % e ≡ 0 → e % d ≡ 0 → x % d ≡ 0
mod_down x e d l r = mod_back x e d r (ap (λ (n : ℕ). n % d) l ∙ zero-mod d)

pub stepped_more :
    {w low : ℕ} {codes : List ℕ} {i e d : ℕ} → Stepped w low codes i e → i < length codes → Divisor e (get_or codes i 0 - low) d
    → Stepped w low codes (i + 1) d
stepped_more {w} {low} {codes} {i} {e} {d} so less is =
    record {
      left = omega arith;
      some = is.some;
      count = mod_down w e d so.count is.left;
      each = λ j before.
          elim (ℕ_discrete j i) [
            | yes same ↦ rw same is.right
            | no ne ↦ mod_down (get_or codes j 0 - low) e d (so.each j (omega arith)) is.left
          ];
    }

pub stepped_all : {w low : ℕ} {codes : List ℕ} {i e : ℕ} → Stepped w low codes i e → length codes ≤ i → CommonStep w low codes e
stepped_all so end = record { some = so.some; count = so.count; each = λ j l. so.each j (omega arith) }

-- 1 divides everything
pub step_one : {w low : ℕ} {codes : List ℕ} → CommonStep w low codes 1
step_one {w} {low} {codes} = record { some = omega arith; count = mod-one w; each = λ j l. mod-one (get_or codes j 0 - low) }

-- ---- the first multiplier that is left

module _ {p times : ℕ} (pos : 0 < p) (some : 0 < times) where
  near : (width j : ℕ) → j < (times * p - 1) / width + 1 → j * width < times * p
  near width j l =
      let most : j * width ≤ (times * p - 1) / width * width = mul-le-mul_right width (omega arith) in
      omega (arith, mul-pos some pos, div-mul-le_self (times * p - 1) width)

  pub before_prime : (width : ℕ) → p ≤ (times * p - 1) / width + 1 → Before p times width p
  before_prime width l = record { from = pos; within = le_refl p; near = λ j h. near width j (omega arith) }

  pub before_first : (width : ℕ) → (times * p - 1) / width + 1 < p → Before p times width ((times * p - 1) / width + 1)
  before_first width l = record { from = omega arith; within = omega arith; near = near width }
