-- Primes. Divisibility is a remainder of 0 throughout, so that tests and laws speak of one thing.
-- Euclid's lemma goes down from a to p % a; a prime is proved by trying the divisors up to its square root.
use Prim.Native.Nat.{ℕ, zero, suc, ◌+◌, ◌*◌, ◌-◌, ◌/◌, ◌%◌, ◌<◌, ◌≤◌}
use native.Mathlib.Nat.{lt_of_mul-lt-mul_right, mod-lt, div-add-mod', mul-mod_right, add-mul-mod_self_right, zero-mod, mod-eq_of_lt, mul-le-mul, mul-le-mul_left, mul-sub, sub-le, le_refl, lt_of_le_of_lt}
use native.Mathlib.Decide.{ℕ_discrete, dec_le}
use native.Mathlib.Omega.{arith}
use mathlib.Core.Bool.{Bool, true, false, false≢true}
use mathlib.Core.Path.{◌≡◌, refl, sym, ap, ◌∙◌}
use lib.Dec.{eqb, lit<, lit≤}
use borrow.Author.Tests.{eqb-false}
use Rattle.hash.specs.Theorems.{Prime}

-- multiples of p may be added on both sides
pub mod_same : (p a b i j : ℕ) → a + i * p ≡ b + j * p → a % p ≡ b % p
mod_same p a b i j e = sym (add-mul-mod_self_right a i p) ∙ ap (λ (n : ℕ). n % p) e ∙ add-mul-mod_self_right b j p

-- p divides the difference of two numbers with the same remainder
pub mod_sub : (p a b : ℕ) → b ≤ a → a % p ≡ b % p → (a - b) % p ≡ 0
mod_sub p a b h e =
    mod_same p (a - b) 0 (b / p) (a / p) (omega (arith, div-add-mod' a p, div-add-mod' b p))
    ∙ zero-mod p

-- a number that p divides is a multiple of it
pub mod_zero_mul : (a p : ℕ) → a % p ≡ 0 → a ≡ a / p * p
mod_zero_mul a p e = omega (arith, div-add-mod' a p)

-- Euclid's lemma. With a at least 2, r = p % a is below a and not 0, and p divides r * b = p * b - (p / a) * (a * b).
module _ {p : ℕ} (prime : Prime p) where
  euclid_step : (a b : ℕ) → (a * b) % p ≡ 0 → (p % a * b) % p ≡ 0
  euclid_step a b e =
      mod_same p (p % a * b) 0 (p / a * (a * b / p)) b
      (omega (arith, ap (λ (n : ℕ). n * b) (div-add-mod' p a), ap (λ (n : ℕ). p / a * n) (mod_zero_mul (a * b) p e)))
      ∙ zero-mod p

  euclid_below : (n a b : ℕ) → a ≤ n → 0 < a → a < p → (a * b) % p ≡ 0 → b % p ≡ 0
  euclid_below zero a b h pos lt e = omega arith
  euclid_below (suc n) a b h pos lt e =
      elim (ℕ_discrete a 1) [
        | yes one ↦ mod_same p b (a * b) 0 0 (omega (arith, ap (λ (m : ℕ). m * b) one)) ∙ e
        | no more ↦
            elim (ℕ_discrete (p % a) 0) [
              | yes divides ↦ absurd (prime.no_divisor a (omega arith) lt divides)
              | no left ↦
                  euclid_below n (p % a) b (omega (arith, mod-lt p pos)) (omega arith) (omega (arith, mod-lt p pos))
                  (euclid_step a b e)
            ]
      ]

  pub euclid : (a b : ℕ) → 0 < a → a < p → (a * b) % p ≡ 0 → b % p ≡ 0
  euclid a b = euclid_below a a b (le_refl a)

  -- so multiplying by a number from 1 to p - 1 keeps numbers below p apart
  times_lt : (k x y : ℕ) → 0 < k → k < p → x < p → y < x → (k * x) % p ≡ (k * y) % p → ⊥
  times_lt k x y pos lt hx h e =
      let d : (k * (x - y)) % p ≡ 0 =
      ap (λ (n : ℕ). n % p) (mul-sub k x y) ∙ mod_sub p (k * x) (k * y) (mul-le-mul_left k (omega arith)) e in
      let z : (x - y) % p ≡ 0 = euclid k (x - y) pos lt d in
      omega (arith, mod-eq_of_lt (lt_of_le_of_lt (sub-le x y) hx))

  pub times_inj : (k x y : ℕ) → 0 < k → k < p → x < p → y < p → (k * x) % p ≡ (k * y) % p → x ≡ y
  times_inj k x y pos lt hx hy e =
      elim (ℕ_discrete x y) [
        | yes same ↦ same
        | no apart ↦
            elim (dec_le x y) [
              | yes le ↦ absurd (times_lt k y x pos lt hy (omega arith) (sym e))
              | no gt ↦ absurd (times_lt k x y pos lt hx (omega arith) e)
            ]
      ]

-- none of the n numbers from d on divides p; it stops at the first that does
unfoldable pub undivided : ℕ → ℕ → ℕ → Bool
undivided p zero d = true
undivided p (suc n) d = elim (eqb (p % d) 0) [ true ↦ false | false ↦ undivided p n (suc d) ]

undivided_more : (p n d : ℕ) → undivided p (suc n) d ≡ true → (p % d ≡ 0 → ⊥) × (undivided p n (suc d) ≡ true)
unfolding undivided
undivided_more p n d = go (eqb (p % d) 0) refl
  where
    go :
        (b : Bool) → eqb (p % d) 0 ≡ b → elim b [ true ↦ false | false ↦ undivided p n (suc d) ] ≡ true
        → (p % d ≡ 0 → ⊥) × (undivided p n (suc d) ≡ true)
    go true f t = absurd (false≢true t)
    go false f t = (eqb-false (p % d) 0 f, t)

undivided_at : (p n d e : ℕ) → undivided p n d ≡ true → d ≤ e → e < d + n → p % e ≡ 0 → ⊥
undivided_at p zero d e t lo hi z = omega arith
undivided_at p (suc n) d e t lo hi z =
    let m : (p % d ≡ 0 → ⊥) × (undivided p n (suc d) ≡ true) = undivided_more p n d t in
    elim (ℕ_discrete d e) [
      | yes same ↦ m.0 (ap (λ (x : ℕ). p % x) same ∙ z)
      | no other ↦ undivided_at p n (suc d) e m.1 (omega arith) (omega arith) z
    ]

-- A prime by trial division: of d and p / d one is at most s, where s is at least the square root of p.
-- With p and s written out, the test is `refl`.
pub prime_by_trial : (p s : ℕ) → 2 ≤ p → p < suc s * suc s → undivided p (s - 1) 2 ≡ true → Prime p
prime_by_trial p s two small t = record { two_le = two; no_divisor = go }
  where
    go : (d : ℕ) → 2 ≤ d → d < p → p % d ≡ 0 → ⊥
    go d lo hi z =
        let e : ℕ = p / d in
        let is : p ≡ e * d = mod_zero_mul p d z in
        elim (dec_le d s) [
          | yes le ↦ undivided_at p (s - 1) 2 d t lo (omega arith) z
          | no gt ↦
              elim (dec_le e s) [
                | yes le ↦ undivided_at p (s - 1) 2 e t (lt_of_mul-lt-mul_right d {m = 1} (omega arith)) (omega arith)
                    (ap (λ (n : ℕ). n % e) is ∙ mul-mod_right e d)
                | no big ↦ omega (arith, mul-le-mul {n₁ = suc s} {m₁ = suc s} {n₂ = e} {m₂ = d} (omega arith) (omega arith))
              ]
        ]

pub prime_65537 : Prime 65537
unfolding undivided
prime_65537 = prime_by_trial 65537 256 (lit≤ tt) (lit< tt) refl

pub prime_1000003 : Prime 1000003
unfolding undivided
prime_1000003 = prime_by_trial 1000003 1000 (lit≤ tt) (lit< tt) refl

pub prime_2147483647 : Prime 2147483647
unfolding undivided
prime_2147483647 = prime_by_trial 2147483647 46340 (lit≤ tt) (lit< tt) refl
