-- `maker::make` meets its contract: the bytes of the table, or the line of the error's refusal.
use native.Mathlib.Omega.{arith}
use Rattle.lines.proofs.LineLaws.{refused_fits}
use Rattle.maker.proofs.make.Goals as goal

pub put_refused-requires : goal.put_refused-requires
put_refused-requires c = refused_fits _ _ (omega arith)
