-- `jumps::runs::equals` meets its contract.
use mathlib.Core.Bool.{cond}
use mathlib.Core.Path.{◌≡◌, ◌∙◌}
use lib.Dec.{eqb}
use Rattle.std.proofs.Common.{rules}
use Rattle.std.proofs.iter.runs.Made.{chains}
use Rattle.std.specs.Prelude.{map, sum}
use Rattle.jumps.proofs.Together.{equals_sum}
use Rattle.jumps.proofs.runs.equals.Goals as goal

pub returns : goal.returns
returns c =
    let counted : c.sum.result ≡ sum (map (λ y. cond (eqb y c.args.x) 1 0) c.args.list.now) = search (rules, chains) in
    counted ∙ equals_sum c.args.x c.args.list.now
