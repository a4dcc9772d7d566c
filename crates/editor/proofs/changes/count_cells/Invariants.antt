-- `editor::changes::count_cells` meets its contract. Invariant: the cells so far are counted.
use Prim.Native.Nat.{◌+◌}
use mathlib.Core.Path.{◌≡◌}
use lib.ListN.{drop}
use Rattle.reader.specs.code.Gathering.{other_count}
use Rattle.editor.proofs.changes.count_cells.Given as goal

abbrev pub invariant-loop-a : goal.invariant-loop-a
invariant-loop-a l = l.count + other_count l.code (drop l.a-index l.cells) ≡ other_count l.code l.cells
