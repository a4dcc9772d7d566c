-- How long the first line of a table is: with ten digits at most for each number, 56 bytes have room for it.
use Prim.Native.Nat.{ℕ, ◌+◌, ◌≤◌}
use mathlib.Core.List.{List}
use mathlib.Core.Path.{◌≡◌}
use native.Mathlib.Omega.{arith}
use lib.ListN.{length, length-append}
use Rattle.decimal.specs.code.Added.{Added}
use Rattle.decimal.specs.Decimal.{decimal}
use Rattle.decimal.proofs.Decimal.{decimal_few}
use Rattle.listing.specs.Listing.{head_line}

module _ (n c k : ℕ) where
  pub head_length : length (head_line n c k) ≡ 26 + length (decimal n) + length (decimal c) + length (decimal k)
  unfolding head_line
  head_length = simp length-append (omega arith)

  head_few : length (head_line n c k) ≤ 56
  head_few = omega (arith, head_length, decimal_few n, decimal_few c, decimal_few k)

  pub head_fits : {room : ℕ} → 56 ≤ room → 0 + length (head_line n c k) ≤ room
  head_fits h = omega (arith, head_few)

  pub head_end : {old : List ℕ} {end : ℕ} {new : List ℕ} → Added (head_line n c k) 0 old end new → end ≤ 56
  head_end a = omega (arith, a.place, head_few)
