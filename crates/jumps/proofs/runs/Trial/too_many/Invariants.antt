-- `jumps::runs::Trial::too_many` meets its contract. The loop's invariant: those from i on make so many pairs, and no more than may be.
use Prim.Native.Nat.{◌+◌, ◌≤◌}
use mathlib.Core.Path.{◌≡◌}
use lib.ListN.{drop, length}
use Rattle.jumps.specs.code.Jumps.{equal_pairs, companies}
use Rattle.jumps.proofs.runs.Trial.too_many.Given as goal

abbrev pub invariant-loop-i : goal.invariant-loop-i
invariant-loop-i l =
    (l.i ≤ length l.keys) × ((l.pairs ≤ l.self.run.most) × (l.pairs ≡ equal_pairs (drop l.i l.keys) + companies l.self.run l.keys (drop l.i l.keys) (drop l.i l.self.codes.now)))
