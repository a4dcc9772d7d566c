-- The right answer to a code has a schedule exactly where the code is listed with it.
use Prim.Native.Nat.{ℕ, zero, suc, ◌<◌}
use native.Mathlib.Decide.{ℕ_discrete}
use native.Mathlib.Omega.{arith}
use mathlib.Core.List.{List, [], ◌∷◌}
use mathlib.Core.Logic.{◌↔◌, ◌⊎◌, inl, inr}
use mathlib.Core.Path.{◌≡◌, refl, sym, ap, ◌∙◌}
use lib.ListN.{length, get_or}
use borrow.Author.Tests.{eq-eqb, ne_eqb}
use Rattle.hash.proofs.Orders.{Distinct}
use Rattle.prelude.specs.Answers.{given, absent}
use Rattle.prelude.specs.Pairs.{among, paired, value_where}
use Rattle.table.proofs.Held.{same_index}
use Rattle.demands.specs.Lists.{Listed, cell_with, right_answer}

-- the code is listed, with the schedule that is answered
pub record Answered (codes schedules words : List ℕ) (a : ℕ) : Type 0 where
  pub schedule : ℕ
  pub listed : Listed codes schedules a schedule
  pub answer : right_answer codes schedules words a ≡ given (schedule ∷ cell_with words a ∷ [])

-- the code is not listed
pub record Missing (codes schedules words : List ℕ) (a : ℕ) : Type 0 where
  pub nowhere : (x : ℕ) → x < length codes → get_or codes x 0 ≡ a → ⊥
  pub answer : right_answer codes schedules words a ≡ absent

right_here :
    (x s a : ℕ) (codes schedules words : List ℕ) → x ≡ a → right_answer (x ∷ codes) (s ∷ schedules) words a ≡ given (s ∷ cell_with words a ∷ [])
unfolding right_answer among paired value_where
right_here x s a codes schedules words e = rw (eq-eqb a x (sym e))

right_later :
    (x s a : ℕ) (codes schedules words : List ℕ) → (x ≡ a → ⊥)
    → right_answer (x ∷ codes) (s ∷ schedules) words a ≡ right_answer codes schedules words a
unfolding right_answer among paired value_where
right_later x s a codes schedules words ne = rw (ne_eqb a x (λ e. ne (sym e)))

pub right_cases :
    (codes schedules words : List ℕ) (a : ℕ) → length schedules ≡ length codes → Answered codes schedules words a ⊎ Missing codes schedules words a
unfolding right_answer among paired value_where
right_cases [] schedules words a same = inr (record { nowhere = λ x h e. omega arith; answer = refl })
right_cases (x ∷ codes) [] words a same = absurd (omega arith)
right_cases (x ∷ codes) (s ∷ schedules) words a same =
    elim (ℕ_discrete x a) [
      | yes e ↦
          inl
          (record {
            schedule = s;
            listed = record { index = 0; in_list = omega arith; code_there = e; schedule_there = refl };
            answer = right_here x s a codes schedules words e;
          })
      | no ne ↦
          elim (right_cases codes schedules words a (omega arith)) [
            | inl r ↦
                inl
                (record {
                  schedule = r.schedule;
                  listed =
                      record {
                        index = suc r.listed.index;
                        in_list = omega (arith, r.listed.in_list);
                        code_there = r.listed.code_there;
                        schedule_there = r.listed.schedule_there;
                      };
                  answer = right_later x s a codes schedules words ne ∙ r.answer;
                })
            | inr r ↦
                inr
                (record {
                  nowhere = later x codes a ne r.nowhere;
                  answer = right_later x s a codes schedules words ne ∙ r.answer;
                })
          ]
    ]
  where
    later :
        (x : ℕ) (codes : List ℕ) (a : ℕ) → (x ≡ a → ⊥) → ((y : ℕ) → y < length codes → get_or codes y 0 ≡ a → ⊥)
        → (y : ℕ) → y < suc (length codes) → get_or (x ∷ codes) y 0 ≡ a → ⊥
    later x codes a ne none zero h e = ne e
    later x codes a ne none (suc y) h e = none y (omega arith) e

-- a code is listed once
pub listed_once :
    (codes schedules : List ℕ) (a s s' : ℕ) → Distinct codes → Listed codes schedules a s → Listed codes schedules a s' → s ≡ s'
listed_once codes schedules a s s' distinct l m =
    sym l.schedule_there
    ∙ ap (λ (x : ℕ). get_or schedules x 0)
    (same_index (λ x. get_or codes x 0) (length codes) distinct l.index m.index l.in_list m.in_list
    (l.code_there ∙ sym m.code_there))
    ∙ m.schedule_there

pub right_exactly :
    (codes schedules words : List ℕ) (a s : ℕ) → length schedules ≡ length codes → Distinct codes
    → ((i : ℕ) × (right_answer codes schedules words a ≡ given (s ∷ i ∷ []))) ↔ Listed codes schedules a s
right_exactly codes schedules words a s same distinct =
    elim (right_cases codes schedules words a same) [
      | inl r ↦ (
        λ (i, e). let v : r.schedule ≡ s = cc r.answer in rw v at r.listed,
        λ l. (cell_with words a, r.answer ∙ ap (λ (v : ℕ). given (v ∷ cell_with words a ∷ [])) (listed_once codes schedules a r.schedule s distinct r.listed l)),
      )
      | inr r ↦ (
        λ (i, e). let z : ◌≡◌ {A = ℕ} 0 1 = cc r.answer in absurd (omega arith),
        λ l. absurd (r.nowhere l.index l.in_list l.code_there),
      )
    ]
