use Prim.Native.Nat.{ℕ, ◌≤◌}
use mathlib.Core.List.{List, append-nil}
use mathlib.Core.Path.{◌≡◌, refl, sym, ap, ◌∙◌}
use native.Mathlib.Nat.{zero-add}
use native.Mathlib.Omega.{arith}
use lib.ListN.{length, get_or, take, drop_of_length-le}
use Rattle.prelude.proofs.Fills.{filling_start, filling_next, filling_more}
use Rattle.prelude.proofs.Tabulate.{TabulatedTo, tabulate_ext, part_tabulate, tabulated_none, tabulated_more, tabulated_kept}
use Rattle.placing.specs.code.Block.{First}
use Rattle.placing.proofs.take_first.Goals as goal

module _ (cells old : List ℕ) (h : First (length old) cells) {i : ℕ} (end : length old ≤ i) where
  taken : {first : List ℕ} → TabulatedTo (λ j. get_or cells j 0) i old first → first ≡ take (length old) cells
  taken t =
      let all : i ≡ length old = omega (arith, t.room) in
      t.memory
      ∙ rw (drop_of_length-le old {i = i} end, all) (append-nil _)
      ∙ tabulate_ext _ _ (length old) (λ j l. ap (λ (x : ℕ). get_or cells x 0) (sym (zero-add j)))
      ∙ sym (part_tabulate cells 0 (length old) (omega (arith, h.some)))

pub loop-i-init : goal.loop-i-init
loop-i-init c =
    (filling_start _ _, (tabulated_none _ _, (refl, refl)))

pub loop-i-preserved : goal.loop-i-preserved
loop-i-preserved c =
    let more = filling_more c.loop-i.invariant.0 (omega (arith, c.requires.some)) in
    let next = tabulated_more c.loop-i.invariant.1.0 (omega arith) in
    (more, rw (filling_next c.loop-i.invariant.0 (omega (arith, c.requires.some))) (next, (more.same, tabulated_kept next)))

pub returns-clause-first_after : goal.returns-clause-first_after
returns-clause-first_after c = taken c.args.cells.now c.args.first.now c.requires (omega arith) c.loop-i.invariant.1.0
