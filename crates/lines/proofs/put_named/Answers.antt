-- `lines::put_named` meets its contract: two pieces are one.
use Rattle.decimal.proofs.Added.{both_put}
use Rattle.lines.proofs.put_named.Goals as goal

pub returns : goal.returns
returns c = both_put c.put_all.ensures c.put_decimal.ensures
