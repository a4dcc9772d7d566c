-- `lines::pairs_length` meets its contract. The loop's invariant: the sum, with the bytes of the lines that are left, is that of all lines.
use Rattle.prelude.specs.Pairs.{paired}
use Rattle.lines.proofs.LineLaws.{Counted}
use Rattle.lines.proofs.pairs_length.Given as goal

abbrev pub invariant-loop-code : goal.invariant-loop-code
invariant-loop-code l = Counted (paired l.initial.codes l.initial.schedules) l.sum (paired l.code-iterator.a.rest.now l.code-iterator.b.rest.now)
