-- A panel past its first tests: at least one code, at most 64, and holds that pass 74.
use Prim.Native.Nat.{ℕ, ◌<◌, ◌≤◌}
use mathlib.Core.Bool.{false, not}
use mathlib.Core.List.{List}
use mathlib.Core.Logic.{◌↔◌}
use mathlib.Core.Path.{◌≡◌}
use borrow.Author.Tests.{le-ltb, ltb-false, eqb-true, eq-eqb, ne_eqb, not-false}
use lib.Dec.{eqb, ltb}
use lib.ListN.{length, get_or}
use Rattle.prelude.specs.Answers.{some}
use Rattle.prelude.proofs.Laws.{or_false}
use Rattle.prelude.proofs.Some.{some_holds, none_below}
use Rattle.panel.specs.Panel.{bad_holds, walk_of, panel_of}

-- 74 does not hold exactly of 999 holds of at most 10,080
pub right_holds : (holds : List ℕ) → (bad_holds holds ≡ false) ↔ ((length holds ≡ 999) × ((i : ℕ) → i < length holds → get_or holds i 0 ≤ 10080))
unfolding bad_holds
right_holds holds = (
  λ e.
      let (number, low) = or_false (not (eqb (length holds) 999)) (some (length holds) (λ i. ltb 10080 (get_or holds i 0))) e in
      (eqb-true (length holds) 999 (not-false _ number), λ i l. ltb-false 10080 (get_or holds i 0) (none_below (length holds) (λ i. ltb 10080 (get_or holds i 0)) low i l)),
  λ (number, low).
      rw (eq-eqb (length holds) 999 number)
      (some_holds (length holds) (λ i. ltb 10080 (get_or holds i 0)) (λ i l. le-ltb 10080 (get_or holds i 0) (low i l))),
)

pub panel_past :
    (p limit : ℕ) (words holds codes : List ℕ) → (length codes ≡ 0 → ⊥) → length codes ≤ 64 → bad_holds holds ≡ false
    → panel_of p limit words holds codes ≡ walk_of p limit words holds codes
unfolding panel_of
panel_past p limit words holds codes some few right = rw (ne_eqb (length codes) 0 some, le-ltb 64 (length codes) few, right)
