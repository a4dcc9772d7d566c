-- Decimal digits: a number of more than one digit is its tenth part and its last digit, since nothing changes where more digits are allowed
-- than it has. So it has one digit more than the powers of ten that it reaches.
use Prim.Native.Nat.{ℕ, zero, suc, ◌+◌, ◌/◌, ◌%◌, ◌^◌, ◌<◌, ◌≤◌}
use mathlib.Core.Bool.{Bool, cond}
use mathlib.Core.List.{List, [], ◌∷◌, ◌++◌, append_assoc}
use mathlib.Core.Path.{◌≡◌, sym, ◌∙◌, ap}
use native.Mathlib.Decide.{dec_le, dec_lt}
use native.Mathlib.Omega.{arith}
use borrow.Author.Tests.{lt-ltb, le-ltb, le-leb, lt-leb}
use lib.Dec.{leb}
use lib.ListN.{length, length-append}
use Rattle.decimal.specs.Decimal.{digits_of, decimal}

-- one digit more is allowed than the number has at most
digits_same : (n x : ℕ) → x < 10 ^ suc n → digits_of (suc n) x ≡ digits_of (suc (suc n)) x
unfolding digits_of
digits_same zero x h = rw (lt-ltb x 10 h)
digits_same (suc n) x h =
    elim (dec_lt x 10) [
      | yes l ↦ rw (lt-ltb x 10 l)
      | no ge ↦ rw (le-ltb x 10 (omega arith)) (ap (λ (s : List ℕ). s ++ ((48 + x % 10) ∷ [])) (digits_same n (x / 10) (omega arith)))
    ]

pub decimal_one : (x : ℕ) → x < 10 → decimal x ≡ (48 + x) ∷ []
unfolding decimal digits_of
decimal_one x h = rw (lt-ltb x 10 h)

pub decimal_more : (x : ℕ) → 10 ≤ x → x < 2 ^ 32 → decimal x ≡ decimal (x / 10) ++ ((48 + x % 10) ∷ [])
unfolding decimal digits_of
decimal_more x h f = rw (le-ltb x 10 h) (ap (λ (s : List ℕ). s ++ ((48 + x % 10) ∷ [])) (digits_same 8 (x / 10) (omega arith)))

-- the two digits of a number below 100
abbrev pub two : ℕ → List ℕ
two x = (48 + x / 10) ∷ (48 + x % 10) ∷ []

pub decimal_two : (x : ℕ) → 10 ≤ x → x < 100 → decimal x ≡ two x
decimal_two x h l = decimal_more x h (omega arith) ∙ rw (decimal_one (x / 10) (omega arith))

-- a number is its hundredth part and its last two digits
pub decimal_hundred : (x : ℕ) → 100 ≤ x → x < 2 ^ 32 → decimal x ≡ decimal (x / 100) ++ two (x % 100)
decimal_hundred x h f =
    let part : x / 10 / 10 ≡ x / 100 = omega arith in
    let tens : x / 10 % 10 ≡ x % 100 / 10 = omega arith in
    let ones : x % 10 ≡ x % 100 % 10 = omega arith in
    rw (decimal_more x (omega arith) f, decimal_more (x / 10) (omega arith) (omega arith), append_assoc, part, tens, ones)

digits_few : (n x : ℕ) → length (digits_of n x) ≤ n
unfolding digits_of
digits_few zero x = omega arith
digits_few (suc n) x =
    elim (dec_lt x 10) [
      | yes l ↦ rw (lt-ltb x 10 l) (omega arith)
      | no ge ↦ rw (le-ltb x 10 (omega arith), length-append) (omega (arith, digits_few n (x / 10)))
    ]

pub decimal_few : (x : ℕ) → length (decimal x) ≤ 10
unfolding decimal
decimal_few x = digits_few 10 x

-- how many of 10, 100, .., 10^n a number reaches
unfoldable pub reached : ℕ → ℕ → ℕ
reached zero x = 0
reached (suc n) x = reached n x + cond (leb (10 ^ suc n) x) 1 0

-- its tenth part reaches one fewer
reached_tenth : (n x : ℕ) → reached (suc n) x ≡ cond (leb 10 x) 1 0 + reached n (x / 10)
unfolding reached
reached_tenth zero x = omega arith
reached_tenth (suc n) x =
    let same : leb (10 ^ suc (suc n)) x ≡ leb (10 ^ suc n) (x / 10) =
    elim (dec_le (10 ^ suc (suc n)) x) [
      | yes l ↦ le-leb (10 ^ suc (suc n)) x l ∙ sym (le-leb (10 ^ suc n) (x / 10) (omega arith))
      | no g ↦ lt-leb (10 ^ suc (suc n)) x (omega arith) ∙ sym (lt-leb (10 ^ suc n) (x / 10) (omega arith))
    ] in
    omega (arith, reached_tenth n x, ap {B = ℕ} (λ (b : Bool). cond b 1 0) same)

digits_reached : (n x : ℕ) → x < 10 ^ suc n → length (digits_of (suc n) x) ≡ 1 + reached n x
unfolding digits_of reached
digits_reached zero x h = rw (lt-ltb x 10 h)
digits_reached (suc n) x h =
    let tenth = digits_reached n (x / 10) (omega arith) in
    elim (dec_lt x 10) [
      | yes l ↦
          rw (lt-ltb x 10 l)
          (omega (
            arith,
            rw (lt-leb 10 x l) at (reached_tenth n x),
            rw (lt-ltb (x / 10) 10 (omega arith)) at tenth,
          ))
      | no ge ↦
          rw (le-ltb x 10 (omega arith), length-append) (omega (arith, rw (le-leb 10 x (omega arith)) at (reached_tenth n x)))
    ]

pub decimal_reached : (x : ℕ) → x < 2 ^ 32 → length (decimal x) ≡ 1 + reached 9 x
unfolding decimal
decimal_reached x h = digits_reached 9 x (omega arith)
