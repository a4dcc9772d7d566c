-- `writer::valid::write_empty` meets its contract.
use Rattle.writer.proofs.Totals.{empty_valid}
use Rattle.writer.proofs.valid.write_empty.Goals as goal

pub returns : goal.returns
returns c = λ p. empty_valid p c.write_known.ensures
