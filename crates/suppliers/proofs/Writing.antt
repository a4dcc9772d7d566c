-- The answer of writing, by its tests in their order, and what is left in lent memory.
use Prim.Native.Nat.{ℕ, ◌<◌, ◌≤◌}
use mathlib.Core.List.{List, [], ◌∷◌}
use mathlib.Core.Path.{◌≡◌, ◌∙◌}
use native.Mathlib.Nat.{zero-add}
use borrow.Author.Tests.{le-ltb, lt-ltb, eq-eqb, ne_eqb}
use lib.ListN.{length}
use Rattle.prelude.specs.Answers.{given, refused}
use Rattle.decimal.specs.code.Added.{Added}
use Rattle.suppliers.specs.Lists.{list_text, write_list_of, ListWritten}

module _ {limit : ℕ} (codes schedules text : List ℕ) where
  pub written_unequal : (length codes ≡ length schedules → ⊥) → ListWritten limit codes schedules text (refused 1 0) text
  unfolding write_list_of
  written_unequal n =
      let u = ne_eqb (length codes) (length schedules) n in
      record { answers = rw u; text_at_exit = rw u }

  module _ (same : length codes ≡ length schedules) where
    pub written_many : limit < length codes → ListWritten limit codes schedules text (refused 2 0) text
    unfolding write_list_of
    written_many l =
        let e = eq-eqb (length codes) (length schedules) same in
        let m = lt-ltb limit (length codes) l in
        record { answers = rw (e, m); text_at_exit = rw (e, m) }

    module _ (few : length codes ≤ limit) where
      pub written_short :
          {needed : ℕ} → needed ≡ length (list_text codes schedules) → length text < needed
          → ListWritten limit codes schedules text (refused 72 needed) text
      unfolding write_list_of
      written_short n l =
          let e = eq-eqb (length codes) (length schedules) same in
          let m = le-ltb limit (length codes) few in
          let s = lt-ltb (length text) (length (list_text codes schedules)) (rw n at l) in
          record { answers = rw (e, m, s, n); text_at_exit = rw (e, m, s) }

      pub written_all :
          {end : ℕ} {text' : List ℕ} → length (list_text codes schedules) ≤ length text → Added (list_text codes schedules) 0 text end text'
          → ListWritten limit codes schedules text (given (end ∷ [])) text'
      unfolding write_list_of
      written_all {end} l a =
          let e = eq-eqb (length codes) (length schedules) same in
          let m = le-ltb limit (length codes) few in
          let s = le-ltb (length text) (length (list_text codes schedules)) l in
          let place : end ≡ length (list_text codes schedules) = a.place ∙ zero-add _ in
          record { answers = rw (e, m, s, place); text_at_exit = rw (e, m, s, ← place) a.memory }
