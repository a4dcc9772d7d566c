-- `audit::places::is_unsound` meets its contract: the part that is handed on holds the codes of the block.
use Prim.Native.Nat.{ℕ, ◌*◌}
use mathlib.Core.Bool.{true, not, ◌||◌}
use mathlib.Core.Path.{◌≡◌, refl, sym, ap, ◌∙◌}
use borrow.Author.Tests.{ne_eqb}
use lib.Dec.{eqb}
use lib.ListN.{length}
use Rattle.audit.proofs.Parts.{handed, part_length, square_fits, block_unsound}
use Rattle.audit.proofs.Sound.{lined}
use Rattle.audit.proofs.places.is_unsound.Goals as goal

some_one : (n : ℕ) → (n ≡ 0 → ⊥) → not (eqb n 0) ≡ true
some_one n ne = rw (ne_eqb n 0 ne) refl

pub test_one-b-requires : goal.test_one-b-requires
test_one-b-requires g c =
    let one_cell : length c.block_codes-part.result.now ≡ 1 = ap length c.block_codes-part.ensures ∙ part_length c.args.words.now c.requires.ranged.0.starts c.requires.ranged.0.sized.whole c.args.j c.requires.j_bound.0 ∙ c.requires.one (some_one g.row.ONE c.if-this-ne0.true) in
    (handed c.requires.ranged.0 c.requires.ranged.1 c.requires.j_bound.0 c.block_hash-block.ensures c.block_codes-part.ensures, one_cell)

pub overflow_mul-result : goal.overflow_mul-result
overflow_mul-result g c =
    record { fits = square_fits (lined c.requires.ranged.0) c.requires.j_bound.0 c.block_codes-part.ensures c.test_one-b.ensures.codes }

pub returns-then-this-ne0 : goal.returns-then-this-ne0
returns-then-this-ne0 g c =
    let one_cell : length c.block_codes-part.result.now ≡ 1 = ap length c.block_codes-part.ensures ∙ part_length c.args.words.now c.requires.ranged.0.starts c.requires.ranged.0.sized.whole c.args.j c.requires.j_bound.0 ∙ c.requires.one (some_one g.row.ONE c.if-this-ne0.true) in
    ap (λ (x : ℕ). c.test_one-b.result.misplaced || not (eqb x (c.test_one-b.result.codes * c.test_one-b.result.codes))) (sym one_cell)
    ∙ block_unsound c.test_one-b.result c.requires.ranged.0 c.requires.ranged.1 c.requires.j_bound.0 c.block_hash-block.ensures c.block_codes-part.ensures c.test_one-b.ensures

pub test_block-b-requires : goal.test_block-b-requires
test_block-b-requires g c =
    record { handed = handed c.requires.ranged.0 c.requires.ranged.1 c.requires.j_bound.0 c.block_hash-block.ensures c.block_codes-part.ensures; list_len_bound = c.requires.j_bound.1 }

pub overflow_mul-result-2 : goal.overflow_mul-result-2
overflow_mul-result-2 g c =
    record { fits = square_fits (lined c.requires.ranged.0) c.requires.j_bound.0 c.block_codes-part.ensures c.test_block-b.ensures.codes }

pub returns : goal.returns
returns g c =
    block_unsound c.test_block-b.result c.requires.ranged.0 c.requires.ranged.1 c.requires.j_bound.0 c.block_hash-block.ensures c.block_codes-part.ensures c.test_block-b.ensures
