-- Every order of the same pairs has the same total and the same table.
use Prim.Native.Nat.{ℕ, ◌≤◌}
use mathlib.Core.List.{List, [], ◌∷◌}
use mathlib.Core.Path.{◌≡◌, refl, sym, ap, ap₂, ◌∙◌}
use lib.ListN.{length, get_or, take}
use Rattle.hash.specs.Theorems.{Prime}
use Rattle.prelude.specs.Answers.{given, into_room, filled}
use Rattle.table.specs.TwoLevel.{words_needed, table_of}
use Rattle.table.proofs.Order.{PairsIn, codes_order, needed_order, table_order}
use Rattle.builder.specs.Build.{build_of, built_words}
use Rattle.lists.specs.Valid.{Valid}
use Rattle.demands.specs.Lists.{Listed, SamePairs}
use Rattle.demands.proofs.BuildingBuild.{build_answer, build_leaves, build_succeeds, built_table}

listed_in :
    (codes schedules codes' schedules' : List ℕ)
    → ((a s : ℕ) → Listed codes schedules a s → Listed codes' schedules' a s) → PairsIn codes schedules codes' schedules'
listed_in codes schedules codes' schedules' there x h =
    let l =
    there (get_or codes x 0) (get_or schedules x 0)
    (record { index = x; in_list = h; code_there = refl; schedule_there = refl }) in
    (l.index, l.in_list, l.code_there, l.schedule_there)

module _
    {p limit : ℕ} (prime : Prime p) (codes schedules codes' schedules' : List ℕ) (valid : Valid p limit codes schedules)
    (valid' : Valid p limit codes' schedules') (same : SamePairs codes schedules codes' schedules')
  where
    order_needed : words_needed p codes ≡ words_needed p codes'
    order_needed =
        needed_order p
        (codes_order codes schedules codes' schedules' valid.codes_valid valid'.codes_valid
        (listed_in codes schedules codes' schedules' same.there)
        (listed_in codes' schedules' codes schedules same.back))

    order_same : table_of p codes schedules ≡ table_of p codes' schedules'
    order_same =
        table_order prime codes schedules codes' schedules' valid.codes_valid valid'.codes_valid valid.parallel
        valid'.parallel
        (listed_in codes schedules codes' schedules' same.there)
        (listed_in codes' schedules' codes schedules same.back)

    -- in any lent words, too few ones too
    pub order_answer : (lent : ℕ) → build_of p limit codes schedules lent ≡ build_of p limit codes' schedules' lent
    order_answer lent =
        build_answer codes schedules valid lent
        ∙ ap (λ (n : ℕ). into_room 6 n lent) order_needed
        ∙ sym (build_answer codes' schedules' valid' lent)

    pub order_leaves : (words : List ℕ) → built_words p limit codes schedules words ≡ built_words p limit codes' schedules' words
    order_leaves words =
        build_leaves codes schedules valid words
        ∙ ap₂ (λ (n : ℕ) (table : List ℕ). filled (into_room 6 n (length words)) table words) order_needed order_same
        ∙ sym (build_leaves codes' schedules' valid' words)

    pub order_succeeds :
        (lent : ℕ) → words_needed p codes' ≤ lent → build_of p limit codes' schedules' lent ≡ given (words_needed p codes ∷ [])
    order_succeeds lent room =
        build_succeeds codes' schedules' valid' lent room ∙ ap (λ (n : ℕ). given (n ∷ [])) (sym order_needed)

    pub order_table :
        (words : List ℕ) → words_needed p codes' ≤ length words
        → take (words_needed p codes) (built_words p limit codes' schedules' words) ≡ table_of p codes schedules
    order_table words room =
        ap (λ (n : ℕ). take n (built_words p limit codes' schedules' words)) order_needed
        ∙ built_table codes' schedules' valid' words room
        ∙ sym order_same
