-- The digits that a text has from one place on: where they end, and the number that they stand for.
use Rattle.std.specs.Prelude.{ℕ, ◌+◌, ◌<◌, ◌≤◌, List, ◌≡◌, length, drop}
use Rattle.decimal.specs.Number.{digits_in, decimal_value}
use Rattle.decimal.specs.declared.number.Scanned.{Scanned}

-- where the digits from `at` on end
abbrev pub digits_end : List ℕ → ℕ → ℕ
digits_end text at = at + length (digits_in (drop at text))

-- one to ten digits stand there, and a byte follows them
pub record Scannable (text : List ℕ) (at : ℕ) : Type 0 where
  pub some_digit : 0 < length (digits_in (drop at text))
  pub few : length (digits_in (drop at text)) ≤ 10
  pub inside : digits_end text at < length text

-- r is where they end, and the number that they stand for
pub record NumberScanned (text : List ℕ) (at : ℕ) (r : Scanned) : Type 0 where
  pub end : r.end ≡ digits_end text at
  pub value : r.value ≡ decimal_value (digits_in (drop at text))
