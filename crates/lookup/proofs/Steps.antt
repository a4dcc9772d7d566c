-- The answers of a lookup past the tests that it passes, over plain words: from the sizes to the code's block.
use Prim.Native.Nat.{ℕ, ◌-◌, ◌≤◌}
use mathlib.Core.Bool.{true, false, true≢false}
use mathlib.Core.Logic.{◌⊎◌, inl, inr}
use mathlib.Core.List.{List}
use mathlib.Core.Path.{◌≡◌, sym, ◌∙◌}
use borrow.Author.Tests.{le-ltb, ne_eqb, not-false}
use lib.Dec.{eqb, ltb}
use lib.ListN.{length}
use Rattle.hash.proofs.Indicators.{true_or_false}
use Rattle.prelude.specs.Answers.{absent, refused, outside}
use Rattle.table.specs.Words.{code_count, block_of}
use Rattle.table.specs.Sizes.{bad_sizes}
use Rattle.lookup.specs.Lookup.{in_block, lookup_of}
use Rattle.table.specs.code.Sized.{has_blocks}

module _ (p limit : ℕ) (words : List ℕ) (code : ℕ) (range : outside 1 (p - 1) code ≡ false) (three : 3 ≤ length words)
    (sizes : bad_sizes p limit words ≡ false) where
  pub lookup_block : (code_count words ≡ 0 → ⊥) → lookup_of p limit words code ≡ in_block p words code (block_of p words code)
  unfolding lookup_of
  lookup_block some = rw (range, le-ltb _ _ three, sizes, ne_eqb _ _ some)

-- where there is no block to come to, a lookup gives no schedule
pub no_codes :
    (p limit : ℕ) (words : List ℕ) → has_blocks p limit words ≡ false → ltb (length words) 3 ≡ false → bad_sizes p limit words ≡ false
    → eqb (code_count words) 0 ≡ true
unfolding has_blocks
no_codes p limit words e three sizes =
    elim (true_or_false (eqb (code_count words) 0)) [
      | inl none ↦ none
      | inr some ↦ absurd (true≢false (sym (not-false (bad_sizes p limit words) (rw (three, some) at e)) ∙ sizes))
    ]

pub no_blocks :
    (p limit : ℕ) (words : List ℕ) (code : ℕ) → has_blocks p limit words ≡ false
    → (lookup_of p limit words code ≡ absent) ⊎ ((number : ℕ) × (lookup_of p limit words code ≡ refused number 0))
unfolding lookup_of
no_blocks p limit words code e =
    elim (true_or_false (outside 1 (p - 1) code)) [
      | inl out ↦ inr (31, rw out)
      | inr range ↦
          elim (true_or_false (ltb (length words) 3)) [
            | inl few ↦ inr (32, rw (range, few))
            | inr three ↦
                elim (true_or_false (bad_sizes p limit words)) [
                  | inl bad ↦ inr (33, rw (range, three, bad))
                  | inr sizes ↦ inl (rw (range, three, sizes, no_codes p limit words e three sizes))
                ]
          ]
    ]
