-- `decimal::number::scan_number` meets its contract. Before the turn at i the digits from i on end where those from `at` on do, and stand,
-- after what has been read, for the same number; the first digit is a turn of its own. The measure is how many they are.
use Prim.Native.Nat.{ℕ}
use mathlib.Core.List.{List}
use mathlib.Core.Path.{◌≡◌}
use lib.ListN.{length, drop}
use Rattle.decimal.specs.Number.{digits_in, value_after, decimal_value}
use Rattle.decimal.specs.code.Digits.{digits_end}
use Rattle.decimal.proofs.number.scan_number.Given as goal

pub record Scanning (text : List ℕ) (at i value : ℕ) : Type 0 where
  pub same_end : digits_end text i ≡ digits_end text at
  pub same_value : value_after value (digits_in (drop i text)) ≡ decimal_value (digits_in (drop at text))

abbrev pub invariant-loop-value : goal.invariant-loop-value
invariant-loop-value l = Scanning l.text l.at l.i l.value

abbrev pub decreases-loop-value : goal.decreases-loop-value
decreases-loop-value l = length (digits_in (drop l.i l.text))
