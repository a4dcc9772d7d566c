-- `audit::check::check_places` meets its contract: 19 is tested before 20.
use Prim.Native.Nat.{ℕ}
use mathlib.Core.Path.{◌≡◌, sym, ap, ◌∙◌}
use Rattle.audit.specs.code.From.{from_count, from_places}
use Rattle.prelude.proofs.Where.{where_refused, where_next}
use Rattle.audit.proofs.Sound.{sound_answer, empty_accepted}
use Rattle.audit.proofs.check.check_places.Goals as goal
use Rattle.audit.proofs.check.check_places.Goals.{then-any_unsound+in_default+in_default-first_unsquare, else-any_unsound}

pub returns-then-words-eq0 : goal.returns-then-words-eq0
returns-then-words-eq0 c =
    empty_accepted c.args.p c.args.words.now c.if-words-eq0.true (c.requires.sized.no_cells c.if-words-eq0.true)

pub returns-in-Some : goal.returns-in-Some
unfolding from_places
returns-in-Some c =
    sym (where_refused _ _ 19 _ (sym c.first_cell.ensures ∙ c.in-Some.is))
    ∙ ap (λ (p : ℕ). from_places p c.args.words.now) c.table_hash-h.ensures.1

pub returns-in-Some-first_unsquare : goal.returns-in-Some-first_unsquare
unfolding from_places
returns-in-Some-first_unsquare c =
    sym (where_refused _ _ 20 _ (sym c.first_unsquare.ensures ∙ c.in-Some-first_unsquare.is))
    ∙ sym (where_next _ _ 19 _ (sym c.first_cell.ensures ∙ c.in_default.is))
    ∙ ap (λ (p : ℕ). from_places p c.args.words.now) c.table_hash-h.ensures.1

pub returns : goal.returns
unfolding from_places
returns c =
    let here : from_count c.args.words.now ≡ from_places c.table_hash-h.result.prime c.args.words.now = elim c.if-any_unsound.branch [
      | then-any_unsound+in_default+in_default-first_unsquare w ↦
          sym (where_next _ _ 20 _ (sym w.first_unsquare.ensures ∙ w.in_default-first_unsquare.is))
          ∙ sym (where_next _ _ 19 _ (sym w.first_cell.ensures ∙ w.in_default.is))
      | else-any_unsound w ↦
          sound_answer c.table_hash-h.result.prime c.args.words.now c.requires.starts (sym c.any_unsound.ensures ∙ w.if-any_unsound.false)
    ] in
    c.check_count.ensures ∙ here ∙ ap (λ (p : ℕ). from_places p c.args.words.now) c.table_hash-h.ensures.1
