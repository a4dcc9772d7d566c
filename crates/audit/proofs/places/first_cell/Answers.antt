use Prim.Native.Nat.{ℕ, ◌<◌}
use mathlib.Core.List.{List}
use mathlib.Core.Path.{◌≡◌, sym, ap, subst, ◌∙◌}
use native.Mathlib.Omega.{arith}
use lib.ListN.{length}
use Rattle.prelude.specs.Answers.{first_where}
use Rattle.table.specs.Words.{code_count, cell_count}
use Rattle.prelude.proofs.First.{Below}
use Rattle.prelude.proofs.Where.{where_none}
use Rattle.audit.specs.Check.{misplaced}
use Rattle.audit.specs.code.Blocks.{misplaced_in}
use Rattle.audit.proofs.Partition.{edge, edge_zero, edge_last}
use Rattle.audit.proofs.Parts.{handed, part_where}
use Rattle.audit.proofs.Sound.{cell_found, cells_passed}
use Rattle.audit.proofs.places.first_cell.Goals as goal

pub loop-j-init : goal.loop-j-init
loop-j-init c = λ i l. absurd (omega (arith, edge_zero c.args.words.now c.requires.0.starts))

pub first_misplaced-requires : goal.first_misplaced-requires
first_misplaced-requires c =
    handed c.requires.0 c.requires.1 (omega (arith, c.wide-j-end.ensures.value)) c.block_hash.ensures c.block_codes.ensures

pub returns-in-Some : goal.returns-in-Some
returns-in-Some c =
    let below : c.loop-j.j < code_count c.args.words.now = omega (arith, c.wide-j-end.ensures.value) in
    let told = sym c.first_misplaced.ensures ∙ c.in-Some.is in
    let start : c.wide.result ≡ c.block_start.result = c.wide.ensures.value in
    rw (start, c.block_start.ensures)
    (sym
    (cell_found c.args.h.prime c.args.words.now c.requires.0.starts c.loop-j.j below c.loop-j.invariant
    (sym (part_where c.args.words.now c.requires.0.starts c.requires.0.sized.whole c.loop-j.j below c.args.h c.block_hash.result c.requires.1 c.block_hash.ensures)
    ∙ sym (ap (λ (l : List ℕ). first_where (length l) (misplaced_in c.args.h c.block_hash.result l)) c.block_codes.ensures)
    ∙ told)))

pub loop-j-preserved : goal.loop-j-preserved
loop-j-preserved c =
    let below : c.loop-j.j < code_count c.args.words.now = omega (arith, c.wide-j-end.ensures.value) in
    let told = sym c.first_misplaced.ensures ∙ c.in_default.is in
    cells_passed c.args.h.prime c.args.words.now c.requires.0.starts c.loop-j.j below c.loop-j.invariant
    (sym (part_where c.args.words.now c.requires.0.starts c.requires.0.sized.whole c.loop-j.j below c.args.h c.block_hash.result c.requires.1 c.block_hash.ensures)
    ∙ sym (ap (λ (l : List ℕ). first_where (length l) (misplaced_in c.args.h c.block_hash.result l)) c.block_codes.ensures)
    ∙ told)

pub returns : goal.returns
returns c =
    let end : c.loop-j.j ≡ code_count c.args.words.now = omega (arith, c.wide-j-end.ensures.value) in
    sym
    (where_none (cell_count c.args.words.now) _
    (subst (Below (misplaced c.args.h.prime c.args.words.now)) (ap (edge c.args.words.now) end ∙ edge_last c.args.words.now c.requires.0.starts) c.loop-j.invariant))
