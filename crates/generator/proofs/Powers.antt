-- Powers of a number modulo p. A power is the one before times the number, reduced. Where g to the power h is -1 and h is a power of two, the exponents that
-- give 1 are the multiples of 2h: such an exponent is t × m with t = 1, 2, 4, .., h in turn, and m is even each time, since for an odd m the h-th power of g,
-- raised to m, would be both -1 and 1. So modulo a prime any 2h powers of g in a row are different.
use Prim.Native.Nat.{ℕ, zero, suc, ◌+◌, ◌*◌, ◌-◌, ◌/◌, ◌%◌, ◌^◌, ◌<◌}
use native.Mathlib.Decide.{ℕ_discrete}
use native.Mathlib.Nat.{mod-lt, mod-eq_of_lt, div-add-mod', pow-zero, pow-succ', mod-mod, mul_comm, mul-zero, mul-one, one-mul}
use native.Mathlib.Numerals.{add-one}
use native.Mathlib.Omega.{arith}
use mathlib.Core.Path.{◌≡◌, sym, ap, ◌∙◌}
use lib.Pow.{pow-add}
use Rattle.hash.specs.Theorems.{Prime}
use Rattle.hash.proofs.Primes.{mod_same, euclid, times_inj}

-- ---- powers

-- a factor may be reduced before the product is
mul_mod : (p a b : ℕ) → (a * (b % p)) % p ≡ (a * b) % p
mul_mod p a b = mod_same p (a * (b % p)) (a * b) (a * (b / p)) 0 (omega (arith, ap (λ (n : ℕ). a * n) (div-add-mod' b p)))

pub power_next : (p g i : ℕ) → (g * (g ^ i % p)) % p ≡ (g ^ (i + 1)) % p
power_next p g i = mul_mod p g (g ^ i) ∙ ap (λ (n : ℕ). n % p) (sym (pow-succ' g i) ∙ ap (λ (n : ℕ). g ^ n) (sym (add-one i)))

power_power : (g a b : ℕ) → g ^ (a * b) ≡ (g ^ a) ^ b
power_power g a zero = ap (λ (n : ℕ). g ^ n) (mul-zero a) ∙ pow-zero g ∙ sym (pow-zero (g ^ a))
power_power g a (suc b) =
    ap (λ (n : ℕ). g ^ n) (omega arith) ∙ pow-add g a (a * b) ∙ ap (λ (n : ℕ). g ^ a * n) (power_power g a b) ∙ sym (pow-succ' (g ^ a) b)

-- ---- powers of 1 and of -1

module _ (p : ℕ) (two : 2 < p) where
  one_power : (x n : ℕ) → x % p ≡ 1 → (x ^ n) % p ≡ 1
  one_power x zero e = rw (pow-zero x) (mod-eq_of_lt (omega arith))
  one_power x (suc n) e =
      ap (λ (m : ℕ). m % p) (pow-succ' x n)
      ∙ sym (mul_mod p x (x ^ n))
      ∙ ap (λ (m : ℕ). (x * m) % p) (one_power x n e)
      ∙ ap (λ (m : ℕ). m % p) (omega arith)
      ∙ e

  minus_one_squared : (x : ℕ) → x % p + 1 ≡ p → (x * x) % p ≡ 1
  minus_one_squared x e = sym (mul_mod p x x) ∙ ap (λ (m : ℕ). m % p) (mul_comm x (x % p)) ∙ sym (mul_mod p (x % p) x) ∙ go (x % p) e
    where
      go : (r : ℕ) → r + 1 ≡ p → (r * r) % p ≡ 1
      go zero h = absurd (omega arith)
      go (suc r) h = mod_same p (suc r * suc r) 1 0 r (omega (arith, ap (λ (m : ℕ). r * m) h)) ∙ mod-eq_of_lt (omega arith)

  minus_one_odd : (x t : ℕ) → x % p + 1 ≡ p → (x ^ (1 + 2 * t)) % p ≡ x % p
  minus_one_odd x t e =
      ap (λ (m : ℕ). m % p) (pow-add x 1 (2 * t) ∙ ap (λ (m : ℕ). x ^ 1 * m) (power_power x 2 t))
      ∙ sym (mul_mod p (x ^ 1) ((x ^ 2) ^ t))
      ∙ ap (λ (m : ℕ). (x ^ 1 * m) % p) (one_power (x ^ 2) t (ap (λ (m : ℕ). m % p) squared ∙ minus_one_squared x e))
      ∙ ap (λ (m : ℕ). m % p) (omega (arith, first))
    where
      first : x ^ 1 ≡ x
      first = pow-succ' x 0 ∙ ap (λ (m : ℕ). x * m) (pow-zero x) ∙ mul-one x

      squared : x ^ 2 ≡ x * x
      squared = pow-succ' x 1 ∙ ap (λ (m : ℕ). x * m) first

  -- ---- exponents that give 1
  module _ (g h : ℕ) (minus_one : g ^ h % p + 1 ≡ p) where
    even : (t u m : ℕ) → t * u ≡ h → g ^ (t * m) % p ≡ 1 → m % 2 ≡ 0
    even t u m e one =
        elim (ℕ_discrete (m % 2) 0) [
          | yes z ↦ z
          | no odd ↦
              let high : g ^ (h * m) % p ≡ 1 =
              ap (λ (n : ℕ). g ^ n % p) (omega (arith, ap (λ (n : ℕ). n * m) e)) ∙ ap (λ (n : ℕ). n % p) (power_power g (t * m) u)
              ∙ one_power (g ^ (t * m)) u one in
              let back : g ^ (h * m) % p ≡ g ^ h % p =
              ap (λ (n : ℕ). n % p) (power_power g h m)
              ∙ ap (λ (n : ℕ). (g ^ h) ^ n % p) (omega (arith, div-add-mod' m 2, mod-lt m {m = 2} (omega arith)))
              ∙ minus_one_odd (g ^ h) (m / 2) minus_one in
              absurd (omega arith)
        ]

    -- m is even, so t × m is 2t × (m / 2)
    halved : (t u m : ℕ) → t * u ≡ h → g ^ (t * m) % p ≡ 1 → t * m ≡ t * 2 * (m / 2)
    halved t u m e one = omega (arith, ap (λ (n : ℕ). t * n) (div-add-mod' m 2), ap (λ (n : ℕ). t * n) (even t u m e one))

    multiples : (k t m : ℕ) → t * 2 ^ k ≡ h → g ^ (t * m) % p ≡ 1 → (q : ℕ) × (t * m ≡ q * (2 * h))
    multiples zero t m e one = (m / 2, omega (arith, halved t 1 m e one, ap (λ (n : ℕ). n * (m / 2)) e))
    multiples (suc k) t m e one =
        let same = halved t (2 ^ suc k) m e one in
        let rest =
        multiples k (t * 2) (m / 2) (omega (arith, ap (λ (n : ℕ). t * n) (pow-succ' 2 k), e)) (ap (λ (n : ℕ). g ^ n % p) (sym same) ∙ one) in
        (rest.0, same ∙ rest.1)

-- ---- modulo a prime

module _ {p : ℕ} (prime : Prime p) (two : 2 < p) (g : ℕ) (positive : 0 < g) (below : g < p) where
  pub power_positive : (i : ℕ) → 0 < g ^ i % p
  power_positive i =
      elim (ℕ_discrete (g ^ i % p) 0) [
        | yes z ↦ absurd (go i z)
        | no more ↦ omega arith
      ]
    where
      go : (i : ℕ) → g ^ i % p ≡ 0 → ⊥
      go zero z = omega (arith, ap (λ (m : ℕ). m % p) (pow-zero g), mod-eq_of_lt {n = 1} {m = p} (omega arith))
      go (suc i) z = go i (euclid prime g (g ^ i) positive below (ap (λ (m : ℕ). m % p) (sym (pow-succ' g i)) ∙ z))

  -- the powers of g with 2h exponents in a row are different
  pub powers_differ :
      (k i j : ℕ) → g ^ (2 ^ k) % p + 1 ≡ p → i < j → j < i + 2 * 2 ^ k → g ^ i % p ≡ g ^ j % p → ⊥
  powers_differ k i j minus_one lt near same =
      let x : ℕ = g ^ i % p in
      let d : ℕ = j - i in
      let product : (x * (g ^ d % p)) % p ≡ (x * 1) % p =
      mul_mod p x (g ^ d)
      ∙ ap (λ (n : ℕ). n % p) (mul_comm x (g ^ d))
      ∙ mul_mod p (g ^ d) (g ^ i)
      ∙ ap (λ (n : ℕ). n % p) (mul_comm (g ^ d) (g ^ i) ∙ sym (pow-add g i d) ∙ ap (λ (n : ℕ). g ^ n) (omega arith))
      ∙ sym same
      ∙ sym (mod-mod (g ^ i) p)
      ∙ ap (λ (n : ℕ). n % p) (sym (mul-one x)) in
      let one : g ^ d % p ≡ 1 =
      times_inj prime x (g ^ d % p) 1 (power_positive i) (mod-lt (g ^ i) (omega arith)) (mod-lt (g ^ d) (omega arith)) (omega arith) product in
      let (q, e) = multiples p two g (2 ^ k) minus_one k 1 d (one-mul (2 ^ k)) (ap (λ (n : ℕ). g ^ n % p) (one-mul d) ∙ one) in
      go q e
    where
      go : (q : ℕ) → 1 * (j - i) ≡ q * (2 * 2 ^ k) → ⊥
      go zero e = omega arith
      go (suc q) e = omega arith
