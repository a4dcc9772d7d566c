-- `editor::changes::list_new` meets its contract.
use native.Mathlib.Omega.{arith}
use Rattle.editor.proofs.Changed.{new_listed, none_listed}
use Rattle.editor.proofs.changes.list_new.Goals as goal

pub returns-in_default : goal.returns-in_default
returns-in_default c = none_listed c.args.change c.in_default.is

pub returns : goal.returns
returns c = new_listed c.args.change c.args.codes.now c.args.schedules.now c.in-Some.is (omega arith) (omega arith)
