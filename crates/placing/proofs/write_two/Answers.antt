-- `placing::write_two` meets its contract: the two codes are read, and each half of the block's cells is lent by itself.
use Prim.Native.Nat.{ℕ, ◌+◌, ◌*◌, ◌%◌, ◌<◌}
use mathlib.Core.List.{List, [], ◌∷◌}
use mathlib.Core.Path.{◌≡◌, refl, sym, ap, ap₂, ◌∙◌}
use native.Mathlib.Omega.{arith}
use lib.ListN.{get_or}
use Rattle.hash.specs.Hash.{hash_of}
use Rattle.search.specs.code.Cells.{filled_by}
use Rattle.search.specs.code.Searchable.{Searchable}
use Rattle.search.proofs.Twos.{two_below}
use Rattle.placing.specs.code.Block.{Gathered}
use Rattle.placing.specs.declared.Block.{Block}
use Rattle.placing.proofs.Placing.{two_placed}
use Rattle.placing.proofs.Blocks.{two_codes, two_schedules, block_placed}
use Rattle.placing.proofs.write_two.Goals as goal

-- the two codes, as they are read
searchable :
    {p : ℕ} {b : Block} {words : List ℕ} → Gathered p b words → b.codes ≡ 2
    → Searchable p (get_or words b.start 0 ∷ get_or words (b.start + 1) 0 ∷ [])
searchable g two = rw (two_codes g two) at g.searchable

pub residue-requires : goal.residue-requires
residue-requires c =
    record { k_lt_p = c.two_multiplier-q.ensures.below; a_lt_p = (two_below (searchable c.requires.0 c.requires.1)).0 }

pub residue-requires-2 : goal.residue-requires-2
residue-requires-2 c =
    record { k_lt_p = c.two_multiplier-q.ensures.below; a_lt_p = (two_below (searchable c.requires.0 c.requires.1)).1.0 }

-- where one of them belongs
at_place : (p q a : ℕ) {r x : ℕ} → r ≡ (q * a) % p → x ≡ r % 4 → (x ≡ hash_of p q 4 a) × (x < 4)
unfolding hash_of
at_place p q a residue is = (is ∙ ap (λ (n : ℕ). n % 4) residue, omega (arith, is))

pub returns : goal.returns
returns c =
    let g = c.requires.0 in
    let four : c.args.b.codes * c.args.b.codes ≡ 4 = rw c.requires.1 refl in
    let first = at_place c.args.p c.two_multiplier-q.result _ c.residue.ensures.value c.wide-x.ensures.value in
    let second = at_place c.args.p c.two_multiplier-q.result _ c.residue-2.ensures.value c.wide-y.ensures.value in
    let codes = two_codes g c.requires.1 in
    let values = two_schedules g c.requires.1 in
    block_placed g (rw codes c.two_multiplier-q.ensures)
    (c.place_two.ensures
    ∙ two_placed c.args.p c.two_multiplier-q.result _ _ _ _ _ _ first.0 first.1 second.0 second.1
    ∙ ap (λ (s : List ℕ). filled_by c.args.p c.two_multiplier-q.result s s) (sym codes))
    (c.place_two-2.ensures
    ∙ two_placed c.args.p c.two_multiplier-q.result _ _ _ _ _ _ first.0 first.1 second.0 second.1
    ∙ ap₂ (filled_by c.args.p c.two_multiplier-q.result) (sym codes) (sym values))
    (sym four)
