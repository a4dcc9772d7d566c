-- `decimal::number::is_number` meets its contract: the test by the first digit, then by how many there are, and of ten by the first digit again.
use Prim.Native.Nat.{ℕ, ◌+◌, ◌*◌, ◌-◌, ◌<◌}
use mathlib.Core.Bool.{true, false}
use mathlib.Core.List.{List, ◌∷◌}
use mathlib.Core.Path.{◌≡◌, sym, ◌∙◌, ap}
use native.Mathlib.Decide.{dec_lt}
use native.Mathlib.Omega.{arith}
use borrow.Author.Tests.{lt-ltb, le-ltb, le-leb, lt-leb}
use lib.Dec.{eqb, leb, ltb}
use lib.ListN.{length, get_or, drop}
use Rattle.decimal.specs.Number.{value_after, decimal_value, is_digit, digits_in, is_number}
use Rattle.decimal.specs.code.Digits.{digits_end}
use Rattle.decimal.proofs.Numbers.{digits_more, digits_first, digits_plain, value_lt, value_below, value_from, judge_none, judge_zero, judge_other}
use Rattle.decimal.proofs.number.is_number.Goals as goal

abbrev digits : List ℕ → ℕ → List ℕ
digits text at = digits_in (drop at text)

module _ (text : List ℕ) (at end : ℕ) (e : (end ≡ digits_end text at) × (end < length text)) where
  first : is_digit (get_or text at 0) ≡ true → digits text at ≡ get_or text at 0 ∷ digits text (at + 1)
  first = digits_more text at (omega arith)

  zero_first : get_or text at 0 ≡ 48 → eqb (end - at) 1 ≡ is_number (digits text at)
  zero_first z =
      let n : end - at ≡ length (digits text at) = omega arith in
      rw n (sym (judge_zero (digits text at) (ap (λ (l : List ℕ). get_or l 0 0) (first (ap is_digit z)) ∙ z)))

  module _ (z : get_or text at 0 ≡ 48 → ⊥) where
    module _ (some : 0 < length (digits text at)) where
      bytes : digits text at ≡ get_or text at 0 ∷ digits text (at + 1)
      bytes = first (digits_first text at (omega arith) some)

      other_first : get_or (digits text at) 0 0 ≡ 48 → ⊥
      other_first w = z (sym (ap (λ (l : List ℕ). get_or l 0 0) bytes) ∙ w)

      by_value : is_number (digits text at) ≡ leb (decimal_value (digits text at)) 4294967295
      by_value = judge_other (digits text at) some other_first

    few : end - at < 10 → ltb 0 (end - at) ≡ is_number (digits text at)
    few l =
        elim (dec_lt 0 (end - at)) [
          | yes s ↦
              lt-ltb 0 (end - at) s
              ∙ sym (by_value (omega arith) ∙ le-leb (decimal_value (digits text at)) 4294967295 (omega (arith, value_below 9 (drop at text) (omega arith))))
          | no n ↦ le-ltb 0 (end - at) (omega arith) ∙ sym (judge_none (digits text at) (omega arith))
        ]

    many : 10 < end - at → false ≡ is_number (digits text at)
    many l =
        let some : 0 < length (digits text at) = omega arith in
        let other = other_first some in
        let least = value_from 10 (digits text at) (omega arith) (omega (arith, (digits_plain (drop at text) 0 some).0)) in
        sym (by_value some ∙ lt-leb (decimal_value (digits text at)) 4294967295 (omega (arith, least)))

    -- ten digits, the first of them below 4, stand for less than 4 * 10^9
    low : end - at ≡ 10 → get_or text at 0 < 52 → true ≡ is_number (digits text at)
    unfolding value_after
    low n l =
        let some : 0 < length (digits text at) = omega arith in
        let nine : length (digits text (at + 1)) ≡ 9 = omega (arith, ap length (bytes some)) in
        let below = rw nine at (value_lt (10 * 0 + (get_or text at 0 - 48)) (drop (at + 1) text)) in
        sym (by_value some ∙ le-leb (decimal_value (digits text at)) 4294967295 (rw (bytes some) (omega (arith, below))))

pub returns-then-text-at-eq48 : goal.returns-then-text-at-eq48
returns-then-text-at-eq48 c =
    zero_first _ _ _ c.requires c.if-text-at-eq48.true

pub returns-then-digits-lt10 : goal.returns-then-digits-lt10
returns-then-digits-lt10 c =
    few _ _ _ c.requires c.if-text-at-eq48.false c.if-digits-lt10.true

pub returns-then-digits-gt10 : goal.returns-then-digits-gt10
returns-then-digits-gt10 c =
    many _ _ _ c.requires c.if-text-at-eq48.false c.if-digits-gt10.true

pub returns-then-text-at-lt52 : goal.returns-then-text-at-lt52
returns-then-text-at-lt52 c =
    low _ _ _ c.requires c.if-text-at-eq48.false (omega arith) c.if-text-at-lt52.true

pub returns : goal.returns
returns c =
    rw (c.scan_number.ensures.value, c.from.ensures) (sym (by_value _ _ _ c.requires c.if-text-at-eq48.false (omega arith)))
