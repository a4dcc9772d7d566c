-- Codes in too few places. For a multiplier k the place of a code depends on its quotient (k * code) / p and on its remainder modulo the places. Codes that
-- have few quotients and few remainders makes more pairs than it may.
use Prim.Native.Nat.{ℕ, suc, ◌+◌, ◌*◌, ◌-◌, ◌/◌, ◌%◌, ◌<◌, ◌≤◌}
use native.Mathlib.Decide.{dec_le}
use native.Mathlib.Nat.{mod-lt, mod-eq_of_lt, div-add-mod', div-le_self, div-eq_of_lt, mul-div-le, mul-add-mod_self_right, mul-add-div_right, mul-le-mul, mul-le-mul_left, mul-le-mul_right, add-sub_of_le, lt_of_mul-lt-mul_right}
use native.Mathlib.Omega.{arith}
use mathlib.Core.Bool.{true}
use mathlib.Core.List.{List, [], ◌∷◌}
use mathlib.Core.Path.{◌≡◌, sym, ap, ◌∙◌}
use borrow.Author.Tests.{ltb-true}
use lib.ListN.{length, get_or}
use Rattle.hash.specs.Hash.{hash_of, load, together, Codes}
use Rattle.hash.proofs.Primes.{mod_same, mod_zero_mul}
use Rattle.prelude.specs.Limits.{room}
use Rattle.prelude.specs.Tabulate.{tabulate}
use Rattle.prelude.proofs.Tabulate.{tabulate_length, tabulate_at}
use Rattle.jumps.specs.code.Jumps.{equals, equal_pairs, Passed}
use Rattle.jumps.specs.code.Starts.{Between, CommonStep, crowded, Before}
use Rattle.jumps.proofs.Together.{pairs_together, crowd}

-- ---- numbers below m are their own places

module _ (m : ℕ) where
  own_place : (x : ℕ) → x < m → hash_of m 1 m x ≡ x
  unfolding hash_of
  own_place x l =
      let e : 1 * x ≡ x = omega arith in
      ap (λ (n : ℕ). (n % m) % m) e ∙ ap (λ (n : ℕ). n % m) (mod-eq_of_lt l) ∙ mod-eq_of_lt l

  load_equals : (x : ℕ) (s : List ℕ) → ((i : ℕ) → i < length s → get_or s i 0 < m) → load m 1 m x s ≤ equals x s
  unfolding load equals
  load_equals x [] small = omega arith
  load_equals x (y ∷ s) small =
      let rest : load m 1 m x s ≤ equals x s = load_equals x s (λ i l. small (suc i) (omega arith)) in
      rw (own_place y (small 0 (omega arith))) (omega arith)

  together_equals : (s : List ℕ) → ((i : ℕ) → i < length s → get_or s i 0 < m) → together m 1 m s ≤ equal_pairs s
  unfolding together equal_pairs
  together_equals [] small = omega arith
  together_equals (x ∷ s) small =
      let later : (i : ℕ) → i < length s → get_or s i 0 < m = λ i l. small (suc i) (omega arith) in
      rw (own_place x (small 0 (omega arith))) (omega (arith, load_equals x s later, together_equals s later))

  -- so a list of n numbers below m has many equal pairs
  crowd_equal :
      (t : ℕ) (s : List ℕ) → 0 < m → ((i : ℕ) → i < length s → get_or s i 0 < m) → 2 * t * length s ≤ 2 * equal_pairs s + m * (t * (t + 1))
  crowd_equal t s pos small = omega (arith, crowd m 1 m t s pos, together_equals s small)

-- ---- quotient and remainder tell the place

digits : (b x y u v : ℕ) → y < b → v < b → x * b + y ≡ u * b + v → (x ≡ u) × (y ≡ v)
digits b x y u v l h e =
    let first : (z w : ℕ) → w < b → (z * b + w) / b ≡ z =
    λ z w less. mul-add-div_right (omega arith) z w ∙ omega (arith, div-eq_of_lt less) in
    let last : (z w : ℕ) → w < b → (z * b + w) % b ≡ w = λ z w less. mul-add-mod_self_right z b w ∙ mod-eq_of_lt less in (
      sym (first x y l) ∙ ap (λ (n : ℕ). n / b) e ∙ first u v h,
      sym (last x y l) ∙ ap (λ (n : ℕ). n % b) e ∙ last u v h,
    )

-- codes with the same remainder, counted in steps, differ by multiples of n
same_place :
    (p k n f e low a c : ℕ) → n ≡ f * e → low ≤ a → low ≤ c → (a - low) % e ≡ 0 → (c - low) % e ≡ 0
    → ((a - low) / e) % f ≡ ((c - low) / e) % f → k * a / p ≡ k * c / p → hash_of p k n a ≡ hash_of p k n c
unfolding hash_of
same_place p k n f e low a c is la lc da dc rem quo =
    mod_same n ((k * a) % p) ((k * c) % p) (k * (y / f)) (k * (x / f))
    (omega (
      arith,
      div-add-mod' (k * a) p,
      div-add-mod' (k * c) p,
      ap (λ (m : ℕ). m * p) quo,
      ap (λ (m : ℕ). k * m) codes,
    ))
  where
    x : ℕ
    x = (a - low) / e

    y : ℕ
    y = (c - low) / e

    steps : x + y / f * f ≡ y + x / f * f
    steps = omega (arith, div-add-mod' x f, div-add-mod' y f, rem)

    codes : a + y / f * n ≡ c + x / f * n
    codes =
        omega (
          arith,
          ap (λ (m : ℕ). m * e) steps,
          ap (λ (m : ℕ). y / f * m) is,
          ap (λ (m : ℕ). x / f * m) is,
          mod_zero_mul (a - low) e da,
          mod_zero_mul (c - low) e dc,
        )

-- quotients keep the order, and numbers that are less than (b - 1) * p apart have quotients less than b apart
quotient_from : (p x y : ℕ) → 0 < p → x ≤ y → x / p ≤ y / p
quotient_from p x y pos l =
    let less : x / p < y / p + 1 = lt_of_mul-lt-mul_right p (omega (arith, div-add-mod' x p, div-add-mod' y p, mod-lt y pos)) in
    omega arith

quotient_lt : (p b x y : ℕ) → 0 < p → y + p < x + b * p → y / p < x / p + b
quotient_lt p b x y pos l = lt_of_mul-lt-mul_right p (omega (arith, div-add-mod' x p, div-add-mod' y p, mod-lt x pos))

-- ---- a list whose codes have b quotients at most

module _ {w low high e : ℕ} {codes : List ℕ} (pos : 0 < w) (between : Between low high codes) (step : CommonStep w low codes e) where
  -- the remainders modulo the places
  remainders_is : w ≡ w / e * e
  remainders_is = mod_zero_mul w e step.count

  pub remainders_pos : 0 < w / e
  remainders_pos = lt_of_mul-lt-mul_right e {m = 0} (omega (arith, remainders_is))

  module _ (p k b : ℕ) (some : 0 < p) (more : 0 < b) (near : k * (high - low) < (b - 1) * p) where
    -- a code's quotient, from that of the least on; its remainder, in steps; and both in one number
    abbrev quotient : ℕ → ℕ
    quotient a = k * a / p - k * low / p

    abbrev remainder : ℕ → ℕ
    remainder a = ((a - low) / e) % (w / e)

    abbrev mark : ℕ → ℕ
    mark i = remainder (get_or codes i 0) * b + quotient (get_or codes i 0)

    abbrev marks : List ℕ
    marks = tabulate mark (length codes)

    from : (i : ℕ) → i < length codes → k * low / p ≤ k * get_or codes i 0 / p
    from i l = quotient_from p (k * low) (k * get_or codes i 0) some (mul-le-mul_left k (between.from_low i l))

    quotient_below : (i : ℕ) → i < length codes → quotient (get_or codes i 0) < b
    quotient_below i l =
        let a : ℕ = get_or codes i 0 in
        let width : low + (high - low) ≡ high = add-sub_of_le (omega (arith, between.from_low i l, between.to_high i l)) in
        let one : 1 + (b - 1) ≡ b = add-sub_of_le more in
        let far : k * a + p < k * low + b * p =
        omega (arith, mul-le-mul_left k (between.to_high i l), ap (λ (n : ℕ). k * n) width, ap (λ (n : ℕ). n * p) one, near) in
        omega (arith, quotient_lt p b (k * low) (k * a) some far, from i l)

    mark_lt : (i : ℕ) → i < length codes → mark i < w / e * b
    mark_lt i l =
        let d : ℕ = remainder (get_or codes i 0) in
        let less : d < w / e = mod-lt ((get_or codes i 0 - low) / e) remainders_pos in
        let most : (d + 1) * b ≤ w / e * b = mul-le-mul_right b (omega arith) in
        omega (arith, quotient_below i l)

    mark_place :
        (i j : ℕ) → i < length codes → j < length codes → mark i ≡ mark j
        → hash_of p k w (get_or codes i 0) ≡ hash_of p k w (get_or codes j 0)
    mark_place i j l h same =
        let a : ℕ = get_or codes i 0 in
        let c : ℕ = get_or codes j 0 in
        let both : (remainder a ≡ remainder c) × (quotient a ≡ quotient c) =
        digits b (remainder a) (quotient a) (remainder c) (quotient c) (quotient_below i l) (quotient_below j h) same in
        same_place p k w (w / e) e low a c remainders_is (between.from_low i l) (between.from_low j h)
        (step.each i l) (step.each j h) both.0 (omega (arith, from i l, from j h, both.1))

    pub crowded_fails : {most : ℕ} → crowded (length codes) most (w / e * b) ≡ true → most < together p k w codes
    unfolding crowded
    crowded_fails {most} crowds =
        let n : ℕ = length codes in
        let m : ℕ = w / e * b in
        let sized : length marks ≡ n = tabulate_length mark n in
        let at : (i : ℕ) → i < n → get_or marks i 0 ≡ mark i = tabulate_at mark n in
        let many : 2 * most + m * (n / m) * (n / m + 1) < 2 * (n / m) * n = ltb-true _ _ crowds in
        let some_places : 0 < m = omega (arith, mul-le-mul_right b remainders_pos) in
        omega (
          arith,
          many,
          ap (λ (x : ℕ). 2 * (n / m) * x) sized,
          crowd_equal m (n / m) marks some_places (λ i l. rw (at i (omega (arith, sized))) (mark_lt i (omega (arith, sized)))),
          pairs_together p k w marks codes sized
              (λ i j l h same.
              mark_place i j (omega (arith, sized)) (omega (arith, sized))
              (sym (at i (omega (arith, sized))) ∙ same ∙ at j (omega (arith, sized)))),
        )

-- crowded codes are at least as many as the places
pub crowded_le : (n most m : ℕ) → 0 < m → crowded n most m ≡ true → m ≤ n
unfolding crowded
crowded_le n most m pos crowds =
    elim (dec_le m n) [
      | yes le ↦ le
      | no gt ↦
          let none : n / m ≡ 0 = div-eq_of_lt (omega arith) in
          let many : 2 * most + m * (n / m) * (n / m + 1) < 2 * (n / m) * n = ltb-true _ _ crowds in
          absurd (omega (arith, rw none at many))
    ]

-- and the sums of the test are small
module _ (n m : ℕ) (small : n ≤ room) where
  pub fewest_fits : m * (n / m) * (n / m + 1) ≤ 4196352
  fewest_fits =
      omega
      (arith, mul-le-mul {n₁ = m * (n / m)} {m₁ = n / m + 1} {n₂ = 2048} {m₂ = 2049} (omega (arith, mul-div-le n m)) (omega (arith, div-le_self n m)))

  pub most_fits : 2 * (n / m) * n ≤ 8388608
  most_fits =
      omega (arith, mul-le-mul {n₁ = n / m} {m₁ = n} {n₂ = 2048} {m₂ = 2048} (omega (arith, div-le_self n m)) (omega arith))

-- crowded codes are two at least, and codes differ
pub ends_apart :
    (most : ℕ) {p w low high e b : ℕ} {codes : List ℕ} → Codes p codes → 0 < w → Between low high codes → CommonStep w low codes e
    → 1 < b → crowded (length codes) most (w / e * b) ≡ true → low < high
ends_apart most {w = w} {low = low} {high = high} {e = e} {b = b} {codes = codes} valid pos between step more crowds =
    let places : b ≤ w / e * b = omega (arith, mul-le-mul_right b (remainders_pos pos between step)) in
    let two : 2 ≤ length codes = omega (arith, crowded_le (length codes) most (w / e * b) (omega arith) crowds) in
    elim (dec_le high low) [
      | yes le ↦
          absurd (valid.different 0 1 (omega arith) (omega arith)
          (omega (arith, between.from_low 0 (omega arith), between.to_high 0 (omega arith), between.from_low 1 (omega arith), between.to_high 1 (omega arith))))
      | no gt ↦ omega arith
    ]

-- so every multiplier that moves the codes too little to have more quotients fails
pub passed_crowded :
    {p w most low high e b r : ℕ} {codes : List ℕ} → 0 < p → 0 < w → Between low high codes → CommonStep w low codes e
    → 0 < b → crowded (length codes) most (w / e * b) ≡ true → Before p (b - 1) (high - low) r
    → Passed p w most codes 1 r
passed_crowded {p} {b = b} some pos between step more crowds before =
    record { from = before.from; over = λ j l h. crowded_fails pos between step p j b some more (before.near j h) crowds }
