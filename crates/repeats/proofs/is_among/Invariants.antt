-- `repeats::is_among` meets its contract. Invariant: the codes before the index are compared.
use mathlib.Core.Path.{◌≡◌}
use lib.ListN.{take}
use Rattle.prelude.specs.Pairs.{among}
use Rattle.repeats.proofs.is_among.Given as goal

abbrev pub invariant-loop-code : goal.invariant-loop-code
invariant-loop-code l = l.found ≡ among l.a (take l.code-index l.codes)
