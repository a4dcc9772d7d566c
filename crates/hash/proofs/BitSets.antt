-- A set of small numbers as the binary digits of one number: digit t is 1 where t is in it.
use Prim.Native.Nat.{ℕ, suc, ◌+◌, ◌*◌, ◌-◌, ◌/◌, ◌%◌, ◌^◌, ◌<◌, ◌≤◌, max}
use mathlib.Core.Path.{◌≡◌, refl, sym, ap, ap₂, ◌∙◌}
use mathlib.Core.Logic.{◌⊎◌, inl, inr}
use native.Mathlib.Decide.{dec_lt}
use native.Mathlib.Nat.{div-lt_iff_lt-mul, pow-suc, zero-mul, mod-lt, div-add-mod', mul-div_cancel, one-mul, mod-eq_of_lt, max-le, le-max_left, le-max_right, add-zero}
use native.Mathlib.Omega.{arith}
use lib.Bits.{bit_and, bit_or, and_le_l, and_le_r, and_mask, and_block, and_zero_r, or_add_and, or_shr, or_step}
use lib.Pow.{pow_pos, pow-lt, pow-add}

abbrev pub has : ℕ → ℕ → ℕ
has s t = s / 2 ^ t % 2

-- the number with digit t alone, as it is worked out in 64 binary digits
pub single_is : (t : ℕ) → t < 64 → (1 * 2 ^ t) % 18446744073709551616 ≡ 2 ^ t
single_is t l = mod-eq_of_lt (omega (arith, pow-lt l)) ∙ one-mul (2 ^ t)

-- nothing is in either of two numbers whose `or` is 0
pub or_none : (a b : ℕ) → bit_or a b ≡ 0 → (a ≡ 0) × (b ≡ 0)
or_none a b none = (omega (arith, or_add_and a b, and_le_r a b), omega (arith, or_add_and a b, and_le_l a b))

-- a digit of an `or` is at least that of either, and at most 1
digit_or : (x y : ℕ) → (x % 2 ≤ bit_or x y % 2) × (y % 2 ≤ bit_or x y % 2)
digit_or x y =
    let m : ℕ = max (x % 2) (y % 2) in
    let small : m ≤ 1 = max-le (omega arith) (omega arith) in
    let e : bit_or x y % 2 ≡ m = omega (arith, or_step x y) in
    (omega (arith, le-max_left (x % 2) (y % 2)), omega (arith, le-max_right (x % 2) (y % 2)))

-- a digit where the second number has none
digit_same : (x y : ℕ) → y % 2 ≡ 0 → bit_or x y % 2 ≡ x % 2
digit_same x y none =
    let m : ℕ = max (x % 2) (y % 2) in
    let small : m ≤ x % 2 = max-le (omega arith) (omega arith) in
    omega (arith, or_step x y, le-max_left (x % 2) (y % 2))

-- a power of 2 has one digit
power_digit : (t u : ℕ) → (u ≡ t → ⊥) → 2 ^ t / 2 ^ u % 2 ≡ 0
power_digit t u ne =
    elim (lt_of_ne t u ne) [
      | inr l ↦
          let none : 2 ^ t / 2 ^ u < 1 = (div-lt_iff_lt-mul (pow_pos u)).1 (omega (arith, pow-lt l, one-mul (2 ^ u))) in
          let zero : 2 ^ t / 2 ^ u ≡ 0 = omega arith in
          rw zero refl
      | inl l ↦
          let e : t ≡ suc (t - suc u) + u = omega arith in
          let parts : 2 ^ t ≡ 2 ^ (t - suc u) * 2 * 2 ^ u =
          ap (λ (x : ℕ). 2 ^ x) e ∙ pow-add 2 (suc (t - suc u)) u ∙ ap (λ (x : ℕ). x * 2 ^ u) (pow-suc 2 (t - suc u)) in
          rw (parts, mul-div_cancel (2 ^ (t - suc u) * 2) (pow_pos u)) (omega arith)
    ]
  where
    lt_of_ne : (t u : ℕ) → (u ≡ t → ⊥) → (u < t) ⊎ (t < u)
    lt_of_ne t u ne = elim (dec_lt u t) [ yes l ↦ inl l | no ge ↦ inr (elim (dec_lt t u) [ yes l ↦ l | no le ↦ absurd (ne (omega arith)) ]) ]

module _ (s t : ℕ) where
  -- what is put in is there, and stays there
  pub put_same : has (bit_or s (2 ^ t)) t ≡ 1
  put_same =
      let one : 2 ^ t / 2 ^ t ≡ 1 = ap (λ (x : ℕ). x / 2 ^ t) (sym (one-mul (2 ^ t))) ∙ mul-div_cancel 1 (pow_pos t) in
      ap (λ (x : ℕ). x % 2) (or_shr s (2 ^ t) t)
      ∙ omega (arith, digit_or (s / 2 ^ t) (2 ^ t / 2 ^ t), one)

  pub put_keeps : (b : ℕ) → has s t ≡ 1 → has (bit_or s b) t ≡ 1
  put_keeps b e = ap (λ (x : ℕ). x % 2) (or_shr s b t) ∙ omega (arith, digit_or (s / 2 ^ t) (b / 2 ^ t))

  -- the digit of what is in it alone
  common : bit_and s (2 ^ t) ≡ has s t * 2 ^ t
  common =
      ap₂ bit_and (sym (div-add-mod' s (2 ^ t))) (sym (add-zero (1 * 2 ^ t) ∙ one-mul (2 ^ t)))
      ∙ and_block t (s / 2 ^ t) 1 (s % 2 ^ t) 0 (mod-lt s (pow_pos t)) (pow_pos t)
      ∙ ap₂ (λ (x y : ℕ). x * 2 ^ t + y) (and_mask (s / 2 ^ t) 1) (and_zero_r (s % 2 ^ t))
      ∙ add-zero (has s t * 2 ^ t)

  -- what has no digit in common with digit t alone has not got t
  pub none_common : bit_and s (2 ^ t) ≡ 0 → has s t ≡ 1 → ⊥
  none_common none e =
      omega (arith, common ∙ ap (λ (x : ℕ). x * 2 ^ t) e, one-mul (2 ^ t), pow_pos t)

  -- and the other way round
  pub not_common : has s t ≡ 0 → bit_and s (2 ^ t) ≡ 0
  not_common e = common ∙ ap (λ (x : ℕ). x * 2 ^ t) e ∙ zero-mul (2 ^ t)

  -- what else is in it is what was in it before
  pub put_other : (u : ℕ) → (u ≡ t → ⊥) → has (bit_or s (2 ^ t)) u ≡ has s u
  put_other u ne =
      let none : 2 ^ t / 2 ^ u % 2 ≡ 0 = power_digit t u ne in
      ap (λ (x : ℕ). x % 2) (or_shr s (2 ^ t) u) ∙ digit_same (s / 2 ^ u) (2 ^ t / 2 ^ u) none
