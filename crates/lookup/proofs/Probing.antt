-- The packed answer of a lookup, over plain words: what is picked of a cell, and the block's answer from the one cell that is read.
use Prim.Native.Nat.{ℕ, max, ◌+◌, ◌*◌, ◌-◌, ◌<◌, ◌≤◌}
use mathlib.Core.Bool.{Bool, true, false, cond, not, ◌||◌, true≢false}
use mathlib.Core.List.{List}
use mathlib.Core.Logic.{inl, inr}
use mathlib.Core.Path.{◌≡◌, refl, sym, subst}
use native.Mathlib.Decide.{ℕ_discrete}
use native.Mathlib.Nat.{eq-or-lt_of_le, add_right_comm}
use native.Mathlib.Omega.{arith}
use borrow.Author.Tests.{eq-eqb, ne_eqb, le-ltb, ltb-true, ltb-false}
use lib.Dec.{eqb, ltb}
use lib.ListN.{length}
use Rattle.hash.specs.Hash.{hash_of}
use Rattle.hash.proofs.Indicators.{true_or_false}
use Rattle.prelude.specs.Answers.{Answer, absent, refuse, outside}
use Rattle.table.specs.Words.{code_count, cell_count, block_start, block_end, block_multiplier, cell_in}
use Rattle.table.specs.Sizes.{bad_sizes}
use Rattle.lookup.specs.Lookup.{in_cell, in_block, lookup_of}
use Rattle.prelude.specs.Numbers.{FoundShown}
use Rattle.prelude.specs.declared.answers.NumberedFound.{NumberedFound}
use Rattle.table.specs.code.Sized.{has_blocks, Part}
use Rattle.lookup.specs.code.OneWord.{word_answer, cell_at, probe_answer, unreadable}
use Rattle.prelude.proofs.Laws.{or_false}
use Rattle.lookup.proofs.Steps.{no_codes}

-- what shows an answer shows any equal one
pub shown_as : {x y : Answer} {r : NumberedFound} → x ≡ y → FoundShown x r → FoundShown y r
shown_as {r = r} e = subst (λ (answer : Answer). FoundShown answer r) e

-- the word with the code of a part's cell is below those with the schedules
pub cell_at_below :
    {words : List ℕ} {start end room place at : ℕ} → Part words start end → room ≡ max (end - start) 1 → place < room
    → at ≡ cell_at (code_count words) (end - start) (start + place) → at < 3 + 2 * code_count words + cell_count words
unfolding cell_at
cell_at_below {start = start} {end = end} part most within is =
    rw is
    (elim (ℕ_discrete (end - start) 0) [
      | yes none ↦ rw (eq-eqb (end - start) 0 none) (omega arith)
      | no some ↦ rw (ne_eqb (end - start) 0 some) (omega (arith, part.below, part.rises))
    ])

-- without a block to come to
pub sizes_told :
    (p limit : ℕ) (words : List ℕ) (code cell : ℕ) → outside 1 (p - 1) code ≡ false → has_blocks p limit words ≡ false → 3 ≤ length words
    → word_answer (cond (bad_sizes p limit words) 33 1000) cell ≡ lookup_of p limit words code
unfolding word_answer lookup_of
sizes_told p limit words code cell range e three =
    elim (true_or_false (bad_sizes p limit words)) [
      | inl wrong ↦ rw (range, le-ltb _ _ three, wrong)
      | inr right ↦ rw (range, le-ltb _ _ three, right, no_codes p limit words e (le-ltb _ _ three) right)
    ]

-- a block that can't be read is refused, but for one without cells, whose q is not looked at
refused_or_absent :
    (falls above none out : Bool) (x : Answer) (cell : ℕ) → falls || (above || out) ≡ true → (falls ≡ true → none ≡ false)
    → word_answer (cond (above || not none) 34 1000) cell ≡ refuse falls 34 0 (refuse above 34 0 (cond none absent (refuse out 34 0 x)))
unfolding word_answer
refused_or_absent true true none out x cell e h = refl
refused_or_absent true false none out x cell e h = rw (h refl)
refused_or_absent false true none out x cell e h = refl
refused_or_absent false false true out x cell e h = refl
refused_or_absent false false false true x cell e h = refl
refused_or_absent false false false false x cell e h = absurd (true≢false (sym e))

pub readable :
    (p c start end q : ℕ) → unreadable p c start end q ≡ false → (start ≤ end) × ((end ≤ c) × (outside 1 (p - 1) q ≡ false))
unfolding unreadable
readable p c start end q e =
    let falls = or_false _ _ e in
    let above = or_false _ _ falls.1 in
    (ltb-false _ _ falls.0, (ltb-false _ _ above.0, above.1))

-- the answer of block j from its ends and its q, as they are read
module _ (p : ℕ) (words : List ℕ) (code j : ℕ) {start end q : ℕ} (at : start ≡ block_start words j) (to : end ≡ block_end words j)
    (by : q ≡ block_multiplier words j) where
  pub unread :
      (cell : ℕ) → unreadable p (cell_count words) start end q ≡ true
      → word_answer (cond (ltb (cell_count words) end || not (eqb start end)) 34 1000) cell ≡ in_block p words code j
  unfolding unreadable in_block
  unread cell e =
      rw (← at, ← to, ← by)
      (refused_or_absent (ltb end start) (ltb (cell_count words) end) (eqb start end) (outside 1 (p - 1) q) _ cell e (λ falls. ne_eqb start end (λ none. let below = ltb-true end start falls in omega arith)))

  pub probed : unreadable p (cell_count words) start end q ≡ false → probe_answer p words code start (end - start) q ≡ in_block p words code j
  unfolding probe_answer in_cell cell_in in_block
  probed e =
      let ends = readable p (cell_count words) start end q e in
      rw (← at, ← to, ← by, le-ltb end start ends.0, le-ltb (cell_count words) end ends.1.0, ends.1.1)
      (elim (eq-or-lt_of_le ends.0) [
        | inl none ↦ rw (eq-eqb (end - start) 0 (omega arith), eq-eqb start end none)
        | inr some ↦
            let cells : max 1 (end - start) ≡ end - start = omega arith in
            rw (
              cells,
              ne_eqb (end - start) 0 (λ none. omega arith),
              ne_eqb start end (λ none. omega arith),
              add_right_comm (3 + 2 * code_count words) (start + hash_of p q (end - start) code) (cell_count words),
            )
      ])
