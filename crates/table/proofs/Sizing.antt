-- What sizes that pass tell.
use Prim.Native.Nat.{ℕ, ◌-◌}
use mathlib.Core.Bool.{Bool, true, false, cond, true≢false}
use mathlib.Core.List.{List}
use mathlib.Core.Path.{◌≡◌, refl, sym}
use native.Mathlib.Omega.{arith}
use borrow.Author.Tests.{eq-eqb, ne_eqb, ltb-false, eqb-false, not-true}
use Rattle.table.specs.Words.{code_count, multiplier}
use Rattle.table.specs.Sizes.{too_many_codes, too_many_cells, bad_multiplier, too_short, bad_sizes}
use Rattle.table.specs.code.Sized.{Sized, WithBlocks, has_blocks}
use Rattle.prelude.proofs.Laws.{or_false, within, below_prime}

-- sizes of which none of 12 to 15 holds
pub sized_by :
    {p limit : ℕ} {words : List ℕ} → too_many_codes limit words ≡ false → too_many_cells words ≡ false → bad_multiplier p words ≡ false
    → too_short words ≡ false → Sized p limit words
sized_by {p} {limit} {words} codes cells k short =
    record {
      few_codes = ltb-false _ _ codes;
      few_cells = λ some. omega (arith, ltb-false, rw (ne_eqb (code_count words) 0 (λ none. omega arith)) at cells);
      no_cells = λ none. omega (arith, ltb-false, rw (eq-eqb (code_count words) 0 none) at cells);
      from_one = (within 1 (p - 1) (multiplier words) k).0;
      below = below_prime p (multiplier words) k;
      whole = ltb-false _ _ short;
    }

pub sized : {p limit : ℕ} {words : List ℕ} → bad_sizes p limit words ≡ false → Sized p limit words
unfolding bad_sizes
sized e =
    let codes = or_false _ _ e in
    let cells = or_false _ _ codes.1 in
    let k = or_false _ _ cells.1 in
    sized_by codes.0 cells.0 k.0 k.1

-- where a lookup comes to a block
kept : (b x : Bool) → cond b false x ≡ true → (b ≡ false) × (x ≡ true)
kept true x e = absurd (true≢false (sym e))
kept false x e = (refl, e)

pub has_blocks_lem : {p limit : ℕ} {words : List ℕ} → has_blocks p limit words ≡ true → WithBlocks p limit words
unfolding has_blocks
has_blocks_lem {p} {limit} {words} e =
    let three = kept _ _ e in
    let some = kept _ _ three.1 in
    record {
      three = ltb-false _ _ three.0;
      some = let h : code_count words ≡ 0 → ⊥ = eqb-false _ _ some.0 in omega arith;
      sizes = not-true _ some.1;
    }
