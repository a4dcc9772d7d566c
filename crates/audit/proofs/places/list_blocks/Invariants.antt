-- `audit::places::list_blocks` meets its contract. The loop's invariant: of the first t blocks of the run those of one cell and those of more are listed.
use Prim.Native.Nat.{ℕ, ◌+◌, ◌-◌, ◌≤◌}
use mathlib.Core.List.{List}
use mathlib.Core.Path.{◌≡◌}
use lib.Dec.{eqb, ltb}
use lib.ListN.{length, take}
use Rattle.prelude.specs.code.Choice.{chosen}
use Rattle.audit.specs.code.Places.{cells_of}
use Rattle.audit.proofs.places.list_blocks.Given as goal

pub record Listing (words : List ℕ) (from to : ℕ) (ones₀ more₀ ones more : List ℕ) (a b t : ℕ) : Type 0 where
  pub upto : t ≤ to - from
  pub ones_long : length ones ≡ length ones₀
  pub more_long : length more ≡ length more₀
  pub ones_within : a ≤ t
  pub more_within : b ≤ t
  pub ones_are : take a ones ≡ chosen (λ t. eqb (cells_of words (from + t)) 1) t
  pub more_are : take b more ≡ chosen (λ t. ltb 1 (cells_of words (from + t))) t

abbrev pub invariant-loop-t : goal.invariant-loop-t
invariant-loop-t l = Listing l.words l.from l.to l.initial.ones l.initial.more l.ones l.more l.a l.b l.t
