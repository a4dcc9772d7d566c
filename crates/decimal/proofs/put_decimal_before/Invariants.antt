-- `decimal::put_decimal_before` meets its contract. Before each turn the last digits stand from `begin` up to the end, and those of `rest` are
-- left. The measure is `rest`.
use Prim.Native.Nat.{ℕ, ◌^◌, ◌<◌}
use mathlib.Core.List.{List, ◌++◌}
use mathlib.Core.Path.{◌≡◌}
use Rattle.decimal.specs.code.Added.{Added}
use Rattle.decimal.specs.Decimal.{decimal}
use Rattle.decimal.proofs.put_decimal_before.Given as goal

pub record Tail (x : ℕ) (old : List ℕ) (end begin rest : ℕ) (new : List ℕ) : Type 0 where
  pub last : List ℕ
  pub added : Added last begin old end new
  pub whole : decimal rest ++ last ≡ decimal x
  pub most : rest < 2 ^ 32

abbrev pub invariant-loop-rest : goal.invariant-loop-rest
invariant-loop-rest l = Tail l.x l.initial.text l.end l.begin l.rest l.text

abbrev pub decreases-loop-rest : goal.decreases-loop-rest
decreases-loop-rest l = l.rest
