-- Lookups in a built table are right: a listed code stands in its own cell with its schedule, and no cell holds another code.
use Prim.Native.Nat.{ℕ, ◌<◌, ◌≤◌}
use native.Mathlib.Decide.{dec_lt}
use native.Mathlib.Omega.{arith}
use mathlib.Core.List.{List, [], ◌∷◌}
use mathlib.Core.Logic.{inl, inr}
use mathlib.Core.Path.{◌≡◌, sym, ap₂, ◌∙◌}
use borrow.Author.Tests.{eqb-true, eqb-false}
use lib.Dec.{eqb}
use lib.ListN.{length, get_or}
use Rattle.hash.specs.Theorems.{Prime}
use Rattle.prelude.specs.Answers.{given, first_of}
use Rattle.table.specs.Words.{cell_count, cell_code, own_cell}
use Rattle.table.specs.TwoLevel.{blocks_multiplier}
use Rattle.lookup.specs.Lookup.{lookup_of}
use Rattle.prelude.proofs.First.{first_is}
use Rattle.table.proofs.Own.{listed_own_lt}
use Rattle.table.proofs.Contents.{Tabled, Filled, filled_own, filled_or_empty}
use Rattle.audit.specs.WellFormed.{WellFormed}
use Rattle.audit.proofs.Lookups.{lookup_found, lookup_absent}
use Rattle.lists.specs.Valid.{Valid}
use Rattle.demands.specs.Lists.{cell_with, right_answer}
use Rattle.demands.proofs.RightAnswer.{Answered, Missing, right_cases}
use Rattle.demands.proofs.BuildingWellFormed.{well_formed}

module _
    {p limit : ℕ} (prime : Prime p) (codes schedules : List ℕ) (valid : Valid p limit codes schedules) (words : List ℕ)
    (t : Tabled p codes schedules words) (a : ℕ) (from : 1 ≤ a) (below : a < p)
  where
    abbrev wf : WellFormed p limit words
    wf = well_formed prime codes schedules valid words t

    -- the one cell with the code
    cell_with_lem : (i : ℕ) → i < cell_count words → cell_code words i ≡ a → i ≡ cell_with words a
    unfolding cell_with
    cell_with_lem i l e =
        let first : ℕ = first_of (cell_count words) (λ j. eqb (cell_code words j) a) in
        let f = first_is (cell_count words) (λ j. eqb (cell_code words j) a) in
        elim (dec_lt first (cell_count words)) [
          | yes h ↦
              let here = lookup_found wf a from below first h (eqb-true (cell_code words first) a (f.holds h)) in
              let there = lookup_found wf a from below i l e in
              cc
          | no ge ↦ absurd (eqb-false (cell_code words i) a (f.below i (omega arith)) e)
        ]

    lookup_listed : (r : Answered codes schedules words a) → lookup_of p limit words a ≡ given (r.schedule ∷ cell_with words a ∷ [])
    lookup_listed r =
        let x : ℕ = r.listed.index in
        let h : x < length codes = r.listed.in_list in
        let cell : Filled p codes schedules words (own_cell p words (get_or codes x 0)) x =
        filled_own prime codes schedules valid.codes_valid valid.parallel words t x h in
        let l : own_cell p words (get_or codes x 0) < cell_count words =
        rw t.front.celled
        (listed_own_lt prime (blocks_multiplier p codes) codes valid.codes_valid words t.front x h) in
        let there = cell.code ∙ r.listed.code_there in
        lookup_found wf a from below (own_cell p words (get_or codes x 0)) l there
        ∙ ap₂ (λ (s i : ℕ). given (s ∷ i ∷ [])) (cell.schedule ∙ r.listed.schedule_there) (cell_with_lem _ l there)

    not_held : Missing codes schedules words a → (i : ℕ) → i < cell_count words → cell_code words i ≡ a → ⊥
    not_held r i l e =
        elim (filled_or_empty prime codes schedules valid.codes_valid valid.parallel words t i (omega (arith, t.celled))) [
          | inl cell ↦ r.nowhere cell.0 cell.1.in_list (sym cell.1.code ∙ e)
          | inr cell ↦ omega (arith, cell.no_code)
        ]

    pub lookup_right : lookup_of p limit words a ≡ right_answer codes schedules words a
    lookup_right =
        elim (right_cases codes schedules words a valid.parallel) [
          | inl r ↦ lookup_listed r ∙ sym r.answer
          | inr r ↦ lookup_absent wf a from below (not_held r) ∙ sym r.answer
        ]
