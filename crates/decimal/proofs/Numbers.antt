-- Numbers that are read. The digits that a text begins with are plain and the rest follows them; m plain digits stand for a value below
-- 10^m, and at least 10^(m-1) where the first is not 0; and the last digit is the value's remainder by ten, so a word has one number.
use Prim.Native.Nat.{ℕ, zero, suc, ◌+◌, ◌*◌, ◌-◌, ◌/◌, ◌%◌, ◌^◌, ◌<◌, ◌≤◌}
use mathlib.Core.Bool.{Bool, true, false, true≢false, not, ◌&&◌, ◌||◌}
use mathlib.Core.List.{List, [], ◌∷◌, ◌++◌, append-nil}
use mathlib.Core.Logic.{◌⊎◌, inl, inr}
use mathlib.Core.Path.{◌≡◌, refl, sym, ◌∙◌, ap, subst}
use native.Mathlib.Decide.{ℕ_discrete, dec_le, dec_lt}
use native.Mathlib.Nat.{mul-le-mul_right, pow-succ', pow-le-pow_right}
use native.Mathlib.Numerals.{add-one}
use native.Mathlib.Omega.{arith}
use borrow.Author.Tests.{leb-true, le-leb, ltb-true, eqb-true, lt-ltb, le-ltb, eq-eqb, ne_eqb}
use lib.Dec.{eqb, leb, ltb, lit<}
use lib.ListN.{length, get_or, take, drop, length-append, get_or-append}
use lib.Seq.{length-take-le, take_all, take-suc, drop-cons, drop-append_seam, get_or-append_seam}
use Rattle.decimal.specs.Decimal.{digits_of, decimal}
use Rattle.decimal.specs.Number.{value_after, decimal_value, Number, is_digit, digits_in, after_digits, is_number}
use Rattle.decimal.proofs.Decimal.{decimal_one, decimal_more}

true_or_false : (b : Bool) → (b ≡ true) ⊎ (b ≡ false)
true_or_false true = inl refl
true_or_false false = inr refl

both_true : (a b : Bool) → a && b ≡ true → (a ≡ true) × (b ≡ true)
both_true true b e = (refl, e)
both_true false b e = absurd (true≢false (sym e))

-- a text is its first digits and what follows them
pub digits_then : (t : List ℕ) → digits_in t ++ after_digits t ≡ t
unfolding digits_in after_digits
digits_then [] = refl
digits_then (b ∷ t) =
    elim (true_or_false (is_digit b)) [
      | inl e ↦ rw (e, digits_in, after_digits) (ap (λ (s : List ℕ). b ∷ s) (digits_then t))
      | inr e ↦ rw (e, digits_in, after_digits)
    ]

pub after_digits_lem : (t : List ℕ) → drop (length (digits_in t)) t ≡ after_digits t
after_digits_lem t =
    ap (λ (s : List ℕ). drop (length (digits_in t)) s) (sym (digits_then t)) ∙ drop-append_seam (digits_in t) (after_digits t)

pub digits_at : (t : List ℕ) (i : ℕ) → i < length (digits_in t) → get_or (digits_in t) i 0 ≡ get_or t i 0
digits_at t i h = sym (get_or-append (digits_in t) (after_digits t) 0 i h) ∙ ap (λ (s : List ℕ). get_or s i 0) (digits_then t)

-- from place i on, at a digit, and at another byte
pub digits_more :
    (t : List ℕ) (i : ℕ) → i < length t → is_digit (get_or t i 0) ≡ true → digits_in (drop i t) ≡ get_or t i 0 ∷ digits_in (drop (i + 1) t)
unfolding digits_in
digits_more t i h e = rw (add-one i, drop-cons t i 0 h, e)

pub digits_end_lem : (t : List ℕ) (i : ℕ) → i < length t → is_digit (get_or t i 0) ≡ false → digits_in (drop i t) ≡ []
unfolding digits_in
digits_end_lem t i h e = rw (drop-cons t i 0 h, e)

pub digits_first : (t : List ℕ) (i : ℕ) → i < length t → 0 < length (digits_in (drop i t)) → is_digit (get_or t i 0) ≡ true
digits_first t i h some =
    elim (true_or_false (is_digit (get_or t i 0))) [ inl e ↦ e | inr e ↦ absurd (omega (arith, ap length (digits_end_lem t i h e))) ]

-- plain digits
abbrev pub Plain : List ℕ → Type 0
Plain digits = (i : ℕ) → i < length digits → (48 ≤ get_or digits i 0) × (get_or digits i 0 ≤ 57)

pub digit_bounds : (b : ℕ) → is_digit b ≡ true → (48 ≤ b) × (b ≤ 57)
digit_bounds b e = let t = both_true (leb 48 b) (leb b 57) e in (leb-true 48 b t.0, leb-true b 57 t.1)

pub digits_plain : (t : List ℕ) → Plain (digits_in t)
unfolding digits_in
digits_plain [] i h = elim h [ ]
digits_plain (b ∷ t) zero h =
    elim (true_or_false (is_digit b)) [
      | inl e ↦ rw (e, digits_in) (digit_bounds b e)
      | inr e ↦ absurd (omega (arith, rw (e, digits_in) at h))
    ]
digits_plain (b ∷ t) (suc i) h =
    elim (true_or_false (is_digit b)) [
      | inl e ↦ rw (e, digits_in) (digits_plain t i (omega (arith, rw (e, digits_in) at h)))
      | inr e ↦ absurd (omega (arith, rw (e, digits_in) at h))
    ]

-- plain digits are the digits of a text that goes on with them
plain_digits : (digits rest : List ℕ) → Plain digits → digits_in (digits ++ rest) ≡ digits ++ digits_in rest
unfolding digits_in
plain_digits [] rest p = refl
plain_digits (b ∷ digits) rest p =
    let l = p 0 (omega arith) in
    let tail = plain_digits digits rest (λ i h. p (suc i) (omega arith)) in
    rw (le-leb 48 b l.0, le-leb b 57 l.1, digits_in) (ap (λ (s : List ℕ). b ∷ s) tail)

-- digits followed by a byte that is no digit
pub digits_before : (digits : List ℕ) (b : ℕ) (rest : List ℕ) → Plain digits → is_digit b ≡ false → digits_in (digits ++ (b ∷ rest)) ≡ digits
unfolding digits_in
digits_before digits b rest p e = plain_digits digits (b ∷ rest) p ∙ rw (e, digits_in) (append-nil digits)

pub after_before : (digits : List ℕ) (b : ℕ) (rest : List ℕ) → Plain digits → is_digit b ≡ false → after_digits (digits ++ (b ∷ rest)) ≡ b ∷ rest
after_before digits b rest p e =
    sym (after_digits_lem (digits ++ (b ∷ rest))) ∙ rw (digits_before digits b rest p e) (drop-append_seam digits (b ∷ rest))

-- digits after others that stand for v: at least v times a power of ten, and less than v + 1 times it
value_least : (v : ℕ) (digits : List ℕ) → v * 10 ^ length digits ≤ value_after v digits
unfolding value_after
value_least v [] = omega arith
value_least v (b ∷ digits) =
    rw (pow-succ' 10 (length digits)) (step v (b - 48) (10 ^ length digits) _ (value_least (10 * v + (b - 48)) digits))
  where
    step : (v d p r : ℕ) → (10 * v + d) * p ≤ r → v * (10 * p) ≤ r
    step v d p r h = omega arith

pub value_lt : (v : ℕ) (t : List ℕ) → value_after v (digits_in t) < (v + 1) * 10 ^ length (digits_in t)
unfolding value_after digits_in
value_lt v [] = omega arith
value_lt v (b ∷ t) =
    elim (true_or_false (is_digit b)) [
      | inl e ↦
          rw (e, digits_in, pow-succ' 10 (length (digits_in t)))
          (step v (b - 48) (10 ^ length (digits_in t)) _ (omega (arith, (digit_bounds b e).1)) (value_lt (10 * v + (b - 48)) t))
      | inr e ↦ rw (e, digits_in) (omega arith)
    ]
  where
    step : (v d p r : ℕ) → d ≤ 9 → r < (10 * v + d + 1) * p → r < (v + 1) * (10 * p)
    step v d p r l h = omega (arith, mul-le-mul_right p l)

pub value_above : (v : ℕ) (digits : List ℕ) → v ≤ value_after v digits
unfolding value_after
value_above v [] = omega arith
value_above v (b ∷ digits) = omega (arith, value_above (10 * v + (b - 48)) digits)

ten_powers : (m n : ℕ) → m ≤ n → 10 ^ m ≤ 10 ^ n
ten_powers m n h = let ten : 0 < 10 = lit< tt in pow-le-pow_right ten h

-- so at most m digits stand for less than 10^m
pub value_below : (m : ℕ) (t : List ℕ) → length (digits_in t) ≤ m → decimal_value (digits_in t) < 10 ^ m
value_below m t h = omega (arith, value_lt 0 t, ten_powers (length (digits_in t)) m h)

-- and more than m, of which the first is not 0, for no less
pub value_from : (m : ℕ) (digits : List ℕ) → m < length digits → 49 ≤ get_or digits 0 0 → 10 ^ m ≤ decimal_value digits
unfolding value_after
value_from m [] h l = elim h [ ]
value_from m (b ∷ digits) h l =
    omega (
      arith,
      ten_powers m (length digits) (omega arith),
      step (10 * 0 + (b - 48)) (10 ^ length digits) _ (omega arith) (value_least (10 * 0 + (b - 48)) digits),
    )
  where
    step : (v p r : ℕ) → 1 ≤ v → v * p ≤ r → p ≤ r
    step v p r l h = omega (arith, mul-le-mul_right p l)

-- what the test of a number says
judged :
    (digits : List ℕ) → is_number digits ≡ true
    → (0 < length digits) × (get_or digits 0 0 ≡ 48 → length digits ≡ 1) × (decimal_value digits ≤ 4294967295)
unfolding is_number
judged digits e =
    let t = both_true (ltb 0 (length digits)) _ e in
    let u = both_true (not (eqb (get_or digits 0 0) 48) || eqb (length digits) 1) (leb (decimal_value digits) 4294967295) t.1 in (
      ltb-true 0 _ t.0,
      (λ z. eqb-true _ 1 (rw (eq-eqb (get_or digits 0 0) 48 z) at u.0)),
      leb-true _ 4294967295 u.1,
    )

-- the test of no digits, of a first 0, and of another first digit
pub judge_none : (digits : List ℕ) → length digits ≡ 0 → is_number digits ≡ false
unfolding is_number
judge_none digits e = rw (le-ltb 0 (length digits) (omega arith))

pub judge_zero : (digits : List ℕ) → get_or digits 0 0 ≡ 48 → is_number digits ≡ eqb (length digits) 1
unfolding is_number value_after
judge_zero [] e = absurd (omega (arith, e))
judge_zero (b ∷ []) e = rw e
judge_zero (b ∷ d ∷ digits) e = rw (e, ne_eqb (suc (suc (length digits))) 1 (omega arith), lt-ltb 0 (suc (suc (length digits))) (omega arith))

pub judge_other : (digits : List ℕ) → 0 < length digits → (get_or digits 0 0 ≡ 48 → ⊥) → is_number digits ≡ leb (decimal_value digits) 4294967295
unfolding is_number
judge_other digits h ne = rw (lt-ltb 0 (length digits) h, ne_eqb (get_or digits 0 0) 48 ne)

pub number_most : (digits : List ℕ) → is_number digits ≡ true → decimal_value digits ≤ 4294967295
number_most digits e = (judged digits e).2

-- a number has at most ten digits
pub digits_few : (t : List ℕ) → is_number (digits_in t) ≡ true → length (digits_in t) ≤ 10
digits_few t e =
    elim (dec_le (length (digits_in t)) 10) [
      | yes l ↦ l
      | no g ↦
          let j = judged (digits_in t) e in
          let other : get_or (digits_in t) 0 0 ≡ 48 → ⊥ = λ z. omega (arith, j.1 z) in
          let first : 49 ≤ get_or (digits_in t) 0 0 = omega (arith, (digits_plain t 0 (omega arith)).0) in
          absurd (omega (arith, j.2, value_from 10 (digits_in t) (omega arith) first))
    ]

-- a Number passes the test, and what passes it is a Number
pub number_passes : {digits : List ℕ} {x : ℕ} → Number digits x → is_number digits ≡ true
number_passes {digits} {x} n =
    elim (ℕ_discrete (get_or digits 0 0) 48) [
      | yes z ↦ judge_zero digits z ∙ eq-eqb (length digits) 1 (n.no_leading_zero z)
      | no ne ↦ judge_other digits n.some_digit ne ∙ le-leb (decimal_value digits) 4294967295 (omega (arith, n.value, n.most))
    ]

pub passes_number : (t : List ℕ) → is_number (digits_in t) ≡ true → Number (digits_in t) (decimal_value (digits_in t))
passes_number t e =
    let j = judged (digits_in t) e in
    record { some_digit = j.0; plain = digits_plain t; no_leading_zero = j.1; value = refl; most = j.2 }

-- digits and a last one
up_to_last : (n : ℕ) (digits : List ℕ) → length digits ≡ suc n → digits ≡ take n digits ++ (get_or digits n 0 ∷ [])
up_to_last n digits h = sym (take_all (suc n) digits (omega arith)) ∙ take-suc digits n 0 (omega arith)

value_last : (v : ℕ) (digits : List ℕ) (d : ℕ) → value_after v (digits ++ (d ∷ [])) ≡ 10 * value_after v digits + (d - 48)
unfolding value_after
value_last v [] d = refl
value_last v (b ∷ digits) d = value_last (10 * v + (b - 48)) digits d

plain_last : (digits : List ℕ) (d : ℕ) → Plain digits → (48 ≤ d) × (d ≤ 57) → Plain (digits ++ (d ∷ []))
plain_last digits d p l i h =
    elim (dec_lt i (length digits)) [
      | yes b ↦ rw (get_or-append digits (d ∷ []) 0 i b) (p i b)
      | no nb ↦ let e : i ≡ length digits = omega (arith, length-append digits (d ∷ [])) in rw (e, get_or-append_seam digits d [] 0) l
    ]

-- a number that begins with 0 is 0
zero_value : (digits : List ℕ) → get_or digits 0 0 ≡ 48 → length digits ≡ 1 → decimal_value digits ≡ 0
unfolding value_after
zero_value digits z h = rw (up_to_last 0 digits h, z)

number_one : (x : ℕ) → x < 10 → Number ((48 + x) ∷ []) x
unfolding value_after
number_one x h =
    record {
      some_digit = omega arith;
      plain = plain_last [] (48 + x) (λ i n. absurd (omega arith)) (omega arith);
      no_leading_zero = λ z. refl;
      value = omega arith;
      most = omega arith;
    }

number_last : {digits : List ℕ} (x : ℕ) → Number digits (x / 10) → 10 ≤ x → x ≤ 4294967295 → Number (digits ++ ((48 + x % 10) ∷ [])) x
number_last {digits} x n h m =
    record {
      some_digit = rw length-append (omega arith);
      plain = plain_last digits (48 + x % 10) n.plain (omega arith);
      no_leading_zero =
          λ z.
          let w = rw (get_or-append digits ((48 + x % 10) ∷ []) 0 0 n.some_digit) at z in
          absurd (omega (arith, n.value, zero_value digits w (n.no_leading_zero w)));
      value = value_last 0 digits (48 + x % 10) ∙ omega (arith, n.value);
      most = m;
    }

digits_number : (n x : ℕ) → x < 10 ^ suc n → x ≤ 4294967295 → Number (digits_of (suc n) x) x
unfolding digits_of
digits_number zero x h m = rw (lt-ltb x 10 h) (number_one x h)
digits_number (suc n) x h m =
    elim (dec_lt x 10) [
      | yes l ↦ rw (lt-ltb x 10 l) (number_one x l)
      | no ge ↦ rw (le-ltb x 10 (omega arith)) (number_last x (digits_number n (x / 10) (omega arith) (omega arith)) (omega arith) m)
    ]

-- a word has one number: its decimal
pub decimal_number : (x : ℕ) → x ≤ 4294967295 → Number (decimal x) x
unfolding decimal
decimal_number x h = digits_number 9 x (omega arith) h

-- the digits before the last are the number of the tenth part
number_front : (front : List ℕ) (d x : ℕ) → 0 < length front → Number (front ++ (d ∷ [])) x → Number front (x / 10) × (10 ≤ x) × (d ≡ 48 + x % 10)
number_front front d x h n =
    let long = length-append front (d ∷ []) in
    let v = sym (value_last 0 front d) ∙ n.value in
    let last = rw (get_or-append_seam front d [] 0) at (n.plain (length front) (omega arith)) in
    let plain : Plain front = λ i l. rw (get_or-append front (d ∷ []) 0 i l) at (n.plain i (omega arith)) in
    let other : get_or front 0 0 ≡ 48 → ⊥ = λ z. omega (arith, n.no_leading_zero (get_or-append front (d ∷ []) 0 0 h ∙ z)) in
    let some = value_from 0 front h (omega (arith, (plain 0 h).0)) in (
      record {
        some_digit = h;
        plain = plain;
        no_leading_zero = λ z. absurd (other z);
        value = omega arith;
        most = omega (arith, n.most);
      },
      omega arith,
      omega arith,
    )

one_decimal : (digits : List ℕ) (x : ℕ) → length digits ≡ 1 → Number digits x → digits ≡ decimal x
unfolding value_after
one_decimal digits x h n =
    let one = up_to_last 0 digits h in
    let l = n.plain 0 (omega arith) in
    let v = rw one at n.value in
    let e : get_or digits 0 0 ≡ 48 + x = omega arith in
    one ∙ rw (decimal_one x (omega arith), e)

last_decimal :
    {front : List ℕ} {d : ℕ} (x : ℕ) → front ≡ decimal (x / 10) → 10 ≤ x → d ≡ 48 + x % 10 → x ≤ 4294967295 → front ++ (d ∷ []) ≡ decimal x
last_decimal x e h f m = rw (e, f) (sym (decimal_more x h (omega arith)))

-- by how many digits there are
decimal_only : (n : ℕ) (digits : List ℕ) (x : ℕ) → length digits ≡ suc n → Number digits x → digits ≡ decimal x
decimal_only zero digits x h n = one_decimal digits x h n
decimal_only (suc m) digits x h n =
    let split = up_to_last (suc m) digits h in
    let front = length-take-le (suc m) digits (omega arith) in
    let f = number_front (take (suc m) digits) (get_or digits (suc m) 0) x (omega arith) (subst (λ (l : List ℕ). Number l x) split n) in
    split ∙ last_decimal x (decimal_only m (take (suc m) digits) (x / 10) front f.0) f.1 f.2 n.most

pub number_decimal : {digits : List ℕ} {x : ℕ} → Number digits x → digits ≡ decimal x
number_decimal {digits} {x} n = decimal_only (length digits - 1) digits x (omega (arith, n.some_digit)) n
