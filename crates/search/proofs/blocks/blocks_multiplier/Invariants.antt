-- `search::blocks::blocks_multiplier` meets its contract. The loop's invariant: no multiplier before k keeps the bound. The measure is p
-- less k.
use Prim.Native.Nat.{◌-◌}
use mathlib.Core.Path.{◌≡◌}
use lib.ListN.{length}
use Rattle.search.proofs.LeastBlocks.{TryingBlocks}
use Rattle.search.proofs.blocks.blocks_multiplier.Given as goal

abbrev pub invariant-loop-k : goal.invariant-loop-k
invariant-loop-k l =
    TryingBlocks l.p l.codes l.k × ((length l.blocks ≡ length l.codes) × (length l.counts ≡ length l.codes))

abbrev pub decreases-loop-k : goal.decreases-loop-k
decreases-loop-k l = l.p - l.k
