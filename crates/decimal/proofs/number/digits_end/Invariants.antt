-- `decimal::number::digits_end` meets its contract. Before the turn at i the digits from i on end where those from `at` on do. The measure is how
-- many they are.
use mathlib.Core.Path.{◌≡◌}
use lib.ListN.{length, drop}
use Rattle.decimal.specs.Number.{digits_in}
use Rattle.decimal.specs.code.Digits.{digits_end}
use Rattle.decimal.proofs.number.digits_end.Given as goal

abbrev pub invariant-loop-end : goal.invariant-loop-end
invariant-loop-end l = digits_end l.text l.end ≡ digits_end l.text l.at

abbrev pub decreases-loop-end : goal.decreases-loop-end
decreases-loop-end l = length (digits_in (drop l.end l.text))
