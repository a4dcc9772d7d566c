-- A code's residue from one multiplier of a run to the next, and its place: while it goes straight on, the place moves by the same amount each time.
use Prim.Native.Nat.{ℕ, ◌+◌, ◌*◌, ◌-◌, ◌/◌, ◌%◌, ◌<◌, ◌≤◌}
use native.Mathlib.Decide.{ℕ_discrete, dec_le}
use native.Mathlib.Nat.{le_refl, mod-lt, mod_self, mod-eq_of_lt, div-add-mod', mul-le-mul_right}
use native.Mathlib.Omega.{arith}
use mathlib.Core.Bool.{true, false, cond}
use mathlib.Core.Logic.{◌⊎◌, inl, inr}
use mathlib.Core.Path.{◌≡◌, ap, ap₂, ◌∙◌}
use borrow.Author.Tests.{leb-true, leb-false, ltb-true, ltb-false, le-leb, lt-leb}
use lib.Dec.{leb, ltb}
use Rattle.hash.specs.Hash.{hash_of}
use Rattle.hash.proofs.Indicators.{true_or_false}
use Rattle.hash.proofs.Primes.{mod_same}
use Rattle.jumps.specs.code.Jumps.{straight, once, wraps_at_most, turn, wrapped}

-- straight on, and wrapping at most once, in one
pub straight_is : (p reach r s : ℕ) → wraps_at_most 0 p reach r s ≡ straight p reach r s
unfolding straight wraps_at_most
straight_is p reach r s =
    ap₂ (λ (x y : ℕ). cond (leb s (p - s)) (ltb (r + reach * s) x) (leb (reach * (p - s)) y)) (omega arith) (omega arith)

pub once_is : (p reach r s : ℕ) → wraps_at_most 1 p reach r s ≡ once p reach r s
unfolding once wraps_at_most
once_is p reach r s =
    ap₂ (λ (x y : ℕ). cond (leb s (p - s)) (ltb (r + reach * s) x) (leb (reach * (p - s)) y)) (omega arith) (omega arith)

module _ (p k g a j : ℕ) where
  -- the product for the multiplier j steps on
  product : (k + j * g) * a ≡ (k * a) % p + j * ((g * a) % p) + (k * a / p + j * (g * a / p)) * p
  product = omega (arith, div-add-mod' (k * a) p, ap (λ (n : ℕ). j * n) (div-add-mod' (g * a) p))

  up : (k * a) % p + j * ((g * a) % p) < p → ((k + j * g) * a) % p ≡ (k * a) % p + j * ((g * a) % p)
  up below =
      mod_same p ((k + j * g) * a) ((k * a) % p + j * ((g * a) % p)) 0 (k * a / p + j * (g * a / p)) (omega (arith, product))
      ∙ mod-eq_of_lt below

  down :
      (d : ℕ) → (g * a) % p + d ≡ p → j * d ≤ (k * a) % p → 0 < p
      → ((k + j * g) * a) % p ≡ (k * a) % p - j * d
  down d is small pos =
      mod_same p ((k + j * g) * a) ((k * a) % p - j * d) 0 (k * a / p + j * (g * a / p) + j)
      (omega (arith, product, ap (λ (n : ℕ). j * n) is))
      ∙ mod-eq_of_lt (omega (arith, mod-lt (k * a) pos))

  -- the same where it has wrapped once
  up_once : p ≤ (k * a) % p + j * ((g * a) % p) → (k * a) % p + j * ((g * a) % p) < 2 * p → ((k + j * g) * a) % p ≡ (k * a) % p + j * ((g * a) % p) - p
  up_once over below =
      mod_same p ((k + j * g) * a) ((k * a) % p + j * ((g * a) % p) - p) 0 (k * a / p + j * (g * a / p) + 1) (omega (arith, product))
      ∙ mod-eq_of_lt (omega arith)

  down_once :
      (d : ℕ) → (g * a) % p + d ≡ p → (k * a) % p < j * d → j * d ≤ (k * a) % p + p
      → ((k + j * g) * a) % p ≡ (k * a) % p + p - j * d
  down_once d is over below =
      mod_same p ((k + j * g) * a) ((k * a) % p + p - j * d) 1 (k * a / p + j * (g * a / p) + j)
      (omega (arith, product, ap (λ (n : ℕ). j * n) is))
      ∙ mod-eq_of_lt (omega arith)

-- a step down by d moves the place by what d lacks of a multiple of w
lacks : (w d : ℕ) → 0 < w → (m : ℕ) × ((w - d % w) % w + d ≡ m * w)
lacks w d pos =
    elim (ℕ_discrete (d % w) 0) [
      | yes none ↦
          let zero : (w - d % w) % w ≡ 0 = ap (λ (n : ℕ). n % w) (omega arith) ∙ mod_self w in
          (d / w, omega (arith, div-add-mod' d w))
      | no some ↦
          let small : (w - d % w) % w ≡ w - d % w = mod-eq_of_lt (omega (arith, mod-lt d pos)) in
          (d / w + 1, omega (arith, div-add-mod' d w, mod-lt d pos, small))
    ]

-- where a code goes straight on up to `reach` steps, its place j steps on
pub moved :
    (p w k g reach a j : ℕ) → 0 < p → 0 < w → j ≤ reach → straight p reach ((k * a) % p) ((g * a) % p) ≡ true
    → hash_of p (k + j * g) w a ≡ (hash_of p k w a + j * turn p w ((g * a) % p)) % w
unfolding hash_of straight turn
moved p w k g reach a j pos some l =
    elim (dec_le s (p - s)) [
      | yes rising ↦ λ on.
          let on' : ltb (r + reach * s) p ≡ true = rw (le-leb s (p - s) rising) at on in
          rw (le-leb s (p - s) rising)
          (ap (λ (n : ℕ). n % w) (up p k g a j (omega (arith, ltb-true (r + reach * s) p on', mul-le-mul_right s l)))
          ∙ mod_same w (r + j * s) (r % w + j * (s % w)) 0 (r / w + j * (s / w))
          (omega (arith, div-add-mod' r w, ap (λ (n : ℕ). j * n) (div-add-mod' s w))))
      | no falling ↦ λ on.
          let on' : leb (reach * (p - s)) r ≡ true = rw (lt-leb s (p - s) (omega arith)) at on in
          let small : j * (p - s) ≤ r = omega (arith, leb-true (reach * (p - s)) r on', mul-le-mul_right (p - s) l) in
          let (m, is) = lacks w (p - s) some in
          rw (lt-leb s (p - s) (omega arith))
          (ap (λ (n : ℕ). n % w) (down p k g a j (p - s) (omega (arith, mod-lt (g * a) pos)) small pos)
          ∙ mod_same w (r - j * (p - s)) (r % w + j * ((w - (p - s) % w) % w)) (j * m) (r / w)
          (omega (arith, div-add-mod' r w, ap (λ (n : ℕ). j * n) is)))
    ]
  where
    r : ℕ
    r = (k * a) % p

    s : ℕ
    s = (g * a) % p

-- where it wraps, once, its place j steps on
moved_past :
    (p w k g reach a j : ℕ) → 0 < p → 0 < w → j ≤ reach → straight p j ((k * a) % p) ((g * a) % p) ≡ false → once p reach ((k * a) % p) ((g * a) % p) ≡ true
    → hash_of p (k + j * g) w a ≡ (wrapped p w ((k * a) % p) ((g * a) % p) + j * turn p w ((g * a) % p)) % w
unfolding hash_of straight once turn wrapped
moved_past p w k g reach a j pos some l =
    elim (dec_le s (p - s)) [
      | yes rising ↦ λ off on.
          let off' : ltb (r + j * s) p ≡ false = rw (le-leb s (p - s) rising) at off in
          let on' : ltb (r + reach * s) (2 * p) ≡ true = rw (le-leb s (p - s) rising) at on in
          let x : ℕ = r % w + (w - p % w) in
          let over : p ≤ r + j * s = ltb-false (r + j * s) p off' in
          rw (le-leb s (p - s) rising)
          (ap (λ (n : ℕ). n % w) (up_once p k g a j over (omega (arith, ltb-true (r + reach * s) (2 * p) on', mul-le-mul_right s l)))
          ∙ mod_same w (r + j * s - p) (x % w + j * (s % w)) (p / w + 1) (r / w + j * (s / w) + x / w)
          (omega (arith, over, mod-lt p some, div-add-mod' r w, div-add-mod' p w, div-add-mod' x w, ap (λ (n : ℕ). j * n) (div-add-mod' s w))))
      | no falling ↦ λ off on.
          let off' : leb (j * (p - s)) r ≡ false = rw (lt-leb s (p - s) (omega arith)) at off in
          let on' : leb (reach * (p - s)) (p + r) ≡ true = rw (lt-leb s (p - s) (omega arith)) at on in
          let y : ℕ = r % w + p % w in
          let over : r < j * (p - s) = leb-false (j * (p - s)) r off' in
          let small : j * (p - s) ≤ r + p = omega (arith, leb-true (reach * (p - s)) (p + r) on', mul-le-mul_right (p - s) l) in
          let (m, is) = lacks w (p - s) some in
          rw (lt-leb s (p - s) (omega arith))
          (ap (λ (n : ℕ). n % w) (down_once p k g a j (p - s) (omega (arith, mod-lt (g * a) pos)) over small)
          ∙ mod_same w (r + p - j * (p - s)) (y % w + j * ((w - (p - s) % w) % w)) (j * m) (r / w + p / w + y / w)
          (omega (arith, small, div-add-mod' r w, div-add-mod' p w, div-add-mod' y w, ap (λ (n : ℕ). j * n) is)))
    ]
  where
    r : ℕ
    r = (k * a) % p

    s : ℕ
    s = (g * a) % p

-- where it wraps at most once, its place j steps on is the same, or that from the place after the wrap
pub moved_once :
    (p w k g reach a j : ℕ) → 0 < p → 0 < w → j ≤ reach → once p reach ((k * a) % p) ((g * a) % p) ≡ true
    → (hash_of p (k + j * g) w a ≡ (hash_of p k w a + j * turn p w ((g * a) % p)) % w)
    ⊎ (hash_of p (k + j * g) w a ≡ (wrapped p w ((k * a) % p) ((g * a) % p) + j * turn p w ((g * a) % p)) % w)
moved_once p w k g reach a j pos some l at_most =
    elim (true_or_false (straight p j ((k * a) % p) ((g * a) % p))) [
      | inl on ↦ inl (moved p w k g j a j pos some (le_refl j) on)
      | inr off ↦ inr (moved_past p w k g reach a j pos some l off at_most)
    ]

pub wrapped_lt : (p w r s : ℕ) → 0 < w → wrapped p w r s < w
unfolding wrapped
wrapped_lt p w r s pos =
    elim (dec_le s (p - s)) [
      | yes rising ↦ rw (le-leb s (p - s) rising) (mod-lt (r % w + (w - p % w)) pos)
      | no falling ↦ rw (lt-leb s (p - s) (omega arith)) (mod-lt (r % w + p % w) pos)
    ]

pub turn_lt : (p w s : ℕ) → 0 < w → turn p w s < w
unfolding turn
turn_lt p w s pos =
    elim (dec_le s (p - s)) [
      | yes rising ↦ rw (le-leb s (p - s) rising) (mod-lt s pos)
      | no falling ↦ rw (lt-leb s (p - s) (omega arith)) (mod-lt (w - (p - s) % w) pos)
    ]
