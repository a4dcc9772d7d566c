-- `lines::put_pairs_before` meets its contract. Before each turn the lines of the pairs from i on stand up to the end.
use lib.ListN.{drop}
use Rattle.decimal.specs.code.Added.{Added}
use Rattle.prelude.specs.Pairs.{paired}
use Rattle.lines.specs.Lines.{pair_lines}
use Rattle.lines.proofs.put_pairs_before.Given as goal

abbrev pub invariant-loop-i : goal.invariant-loop-i
invariant-loop-i l = Added (pair_lines l.separator (paired (drop l.i l.codes) (drop l.i l.schedules))) l.begin l.initial.text l.end l.text
