use Prim.Native.Nat.{ℕ, ◌+◌, ◌*◌, ◌-◌, ◌^◌, ◌<◌}
use mathlib.Core.Bool.{true, false}
use mathlib.Core.List.{List, ◌∷◌}
use mathlib.Core.Path.{◌≡◌, refl, sym, ◌∙◌, ap}
use native.Mathlib.Nat.{zero-add}
use native.Mathlib.Omega.{arith}
use lib.ListN.{length, get_or, drop}
use Rattle.decimal.specs.Number.{is_digit, digits_in, value_after, decimal_value}
use Rattle.decimal.specs.code.Digits.{digits_end, Scannable}
use Rattle.decimal.proofs.Numbers.{digit_bounds, digits_more, digits_end_lem, digits_first, value_above, value_below}
use Rattle.decimal.proofs.number.scan_number.Invariants.{Scanning}
use Rattle.decimal.proofs.number.scan_number.Goals as goal

module _ {text : List ℕ} {at : ℕ} (f : Scannable text at) where
  first : is_digit (get_or text at 0) ≡ true
  first = digits_first text at (omega (arith, f.inside)) f.some_digit

  module _ {i value : ℕ} (s : Scanning text at i value) where
    -- ten digits fit
    small : value < 10 ^ 10
    small = omega (arith, s.same_value, value_above value (digits_in (drop i text)), value_below 10 (drop at text) f.few)

    -- at a digit
    module _ (d : is_digit (get_or text i 0) ≡ true) where
      more : digits_in (drop i text) ≡ get_or text i 0 ∷ digits_in (drop (i + 1) text)
      more = digits_more text i (omega (arith, s.same_end, f.inside)) d

      turn : Scanning text at (i + 1) (10 * value + (get_or text i 0 - 48))
      unfolding value_after
      turn = record { same_end = omega (arith, ap length more, s.same_end); same_value = rw more at s.same_value }

    -- at another byte
    stop : is_digit (get_or text i 0) ≡ false → (i ≡ digits_end text at) × (value ≡ decimal_value (digits_in (drop at text)))
    unfolding value_after
    stop d =
        let none = digits_end_lem text i (omega (arith, s.same_end, f.inside)) d in
        (omega (arith, s.same_end, ap length none), rw none at s.same_value)

  start : Scanning text at (at + 1) (get_or text at 0 - 48)
  start = rw zero-add at (turn (record { same_end = refl; same_value = refl }) first)

pub digit_value-value-requires : goal.digit_value-value-requires
digit_value-value-requires c =
    (digit_bounds _ (first c.requires)).0

pub loop-value-init : goal.loop-value-init
loop-value-init c = rw c.digit_value-value.ensures (start c.requires)

pub overflow_mul-value : goal.overflow_mul-value
overflow_mul-value c =
    let d = sym c.is_ascii_digit.ensures.value ∙ c.loop-value-test.true in
    omega (arith, small c.requires (turn c.requires c.loop-value.invariant d))

pub overflow_add-value : goal.overflow_add-value
overflow_add-value c =
    let d = sym c.is_ascii_digit.ensures.value ∙ c.loop-value-test.true in
    omega (arith, c.digit_value.ensures, small c.requires (turn c.requires c.loop-value.invariant d))

pub loop-value-smaller : goal.loop-value-smaller
loop-value-smaller c =
    let d = sym c.is_ascii_digit.ensures.value ∙ c.loop-value-test.true in
    omega (arith, ap length (more c.requires c.loop-value.invariant d))

pub loop-value-preserved : goal.loop-value-preserved
loop-value-preserved c =
    let d = sym c.is_ascii_digit.ensures.value ∙ c.loop-value-test.true in
    rw c.digit_value.ensures (turn c.requires c.loop-value.invariant d)

pub returns : goal.returns
returns c =
    let e = stop c.requires c.loop-value.invariant (sym c.is_ascii_digit.ensures.value ∙ c.loop-value-test.false) in
    record { end = e.0; value = e.1 }
