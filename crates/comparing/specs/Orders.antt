-- A list of pairs in both orders.
use Rattle.std.specs.Prelude.{ℕ, List, ◌≡◌, length}
use Rattle.std.specs.Borrow.{Bor}
use Rattle.std.specs.Fn.{Shared, FnReturnsAtPair}
use Rattle.digests.specs.Lent.{turned}

pub record BothOrders (codes schedules codes2 schedules2 : List ℕ) : Type 0 where
  pub codes_turned : codes2 ≡ turned codes
  pub schedules_turned : schedules2 ≡ turned schedules

-- some list of n pairs was built in its order, and in the reverse
pub record BuiltBoth {F : Type 0} (calls : Shared F (Bor (List ℕ) × (Bor (List ℕ) × Unit {0})) (Unit {0})) (build : F) (n : ℕ) : Type 0 where
  pub codes : List ℕ
  pub schedules : List ℕ
  pub codes_length : length codes ≡ n
  pub schedules_length : length schedules ≡ n
  pub in_order : FnReturnsAtPair calls build codes schedules tt
  pub in_reverse : FnReturnsAtPair calls build (turned codes) (turned schedules) tt
