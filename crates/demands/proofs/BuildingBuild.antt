-- A build of a valid list succeeds in enough words: none of 1 to 5 holds, and the total is at most 8n - 1 (3), so neither does 6. It
-- leaves the table, and after it the words as they were.
use Prim.Native.Nat.{ℕ, ◌≤◌}
use native.Mathlib.Decide.{ℕ_discrete}
use native.Mathlib.Omega.{arith}
use mathlib.Core.List.{List, [], ◌∷◌}
use mathlib.Core.Path.{◌≡◌, ap, ◌∙◌}
use lib.ListN.{length, take, drop}
use lib.Seq.{take_at, drop_at}
use borrow.Author.Tests.{eq-eqb, ne_eqb, le-ltb}
use Rattle.hash.specs.Hash.{Codes}
use Rattle.hash.specs.Theorems.{Prime}
use Rattle.prelude.specs.Answers.{Answer, given, into_room, filled, over}
use Rattle.table.specs.TwoLevel.{words_needed, table_of}
use Rattle.table.proofs.Chosen.{few_cells, no_cells}
use Rattle.table.proofs.Contents.{needed_is, table_length}
use Rattle.builder.specs.Build.{build_of, built_words}
use Rattle.lists.proofs.Valid.{valid_passes}
use Rattle.lists.specs.Valid.{Valid}
use Rattle.demands.specs.Lists.{enough}

module _ {p limit : ℕ} (codes schedules : List ℕ) (valid : Valid p limit codes schedules) where
  -- 6 is left
  pub build_answer : (lent : ℕ) → build_of p limit codes schedules lent ≡ into_room 6 (words_needed p codes) lent
  unfolding build_of
  build_answer lent = valid_passes valid _

  pub build_leaves :
      (words : List ℕ)
      → built_words p limit codes schedules words
      ≡ filled (into_room 6 (words_needed p codes) (length words)) (table_of p codes schedules) words
  unfolding built_words
  build_leaves words = ap (λ (r : Answer). filled r (table_of p codes schedules) words) (build_answer (length words))

  pub build_succeeds :
      (lent : ℕ) → words_needed p codes ≤ lent → build_of p limit codes schedules lent ≡ given (words_needed p codes ∷ [])
  build_succeeds lent h = build_answer lent ∙ rw (le-ltb lent (words_needed p codes) h)

  module _ (words : List ℕ) (room : words_needed p codes ≤ length words) where
    built_is : built_words p limit codes schedules words ≡ over (table_of p codes schedules) words
    unfolding built_words
    built_is = ap (λ (r : Answer). filled r (table_of p codes schedules) words) (build_succeeds (length words) room)

    pub built_table : take (words_needed p codes) (built_words p limit codes schedules words) ≡ table_of p codes schedules
    built_table =
        ap (take (words_needed p codes)) built_is
        ∙ take_at (table_of p codes schedules) _ (words_needed p codes) (table_length p codes schedules)

    pub built_kept :
        drop (words_needed p codes) (built_words p limit codes schedules words) ≡ drop (words_needed p codes) words
    built_kept =
        ap (drop (words_needed p codes)) built_is
        ∙ drop_at (table_of p codes schedules) _ (words_needed p codes) (table_length p codes schedules)
        ∙ ap (λ (n : ℕ). drop n words) (table_length p codes schedules)

pub needed_enough : {p : ℕ} → Prime p → (codes : List ℕ) → Codes p codes → words_needed p codes ≤ enough (length codes)
unfolding enough
needed_enough {p} prime codes valid =
    elim (ℕ_discrete (length codes) 0) [
      | yes none ↦ rw (eq-eqb (length codes) 0 none) (omega (arith, needed_is p codes, no_cells p codes none))
      | no some ↦
          rw (ne_eqb (length codes) 0 some)
          (omega (arith, needed_is p codes, few_cells prime codes valid (omega arith)))
    ]
