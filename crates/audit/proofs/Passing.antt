-- What the tests 16 to 20 of a check tell, each as the fact that it rules out.
use Prim.Native.Nat.{ℕ, zero, suc, ◌+◌, ◌*◌, ◌-◌, ◌<◌, ◌≤◌}
use mathlib.Core.Bool.{Bool, true, false, cond, not, beq, false≢true}
use mathlib.Core.List.{List}
use mathlib.Core.Logic.{◌↔◌}
use mathlib.Core.Path.{◌≡◌, refl, ap}
use native.Mathlib.Decide.{ℕ_discrete}
use native.Mathlib.Nat.{add-sub_cancel}
use native.Mathlib.Numerals.{add-one}
use native.Mathlib.Omega.{arith}
use borrow.Author.Tests.{eqb-true, eqb-false, ltb-false, not-false, eq-eqb, ne_eqb, le-ltb}
use lib.Dec.{eqb, ltb}
use Rattle.table.specs.Words.{code_count, cell_count, block_start, block_end, block_multiplier, cell_code, cell_schedule, block_of, own_cell}
use Rattle.prelude.proofs.Laws.{or_false, within}
use Rattle.prelude.proofs.First.{Below}
use Rattle.audit.specs.Check.{bad_start, bad_block_multiplier, bad_cell, misplaced, bad_square, codes_in, block_codes}
use Rattle.audit.specs.code.Starts.{Starts}
use Rattle.audit.proofs.Partition.{block_lt, start_le_end}

-- 16
before : List ℕ → ℕ → Bool
before words j = cond (eqb j 0) (not (eqb (block_start words j) 0)) (ltb (block_start words j) (block_start words (j - 1)))

start_passes : (words : List ℕ) (j : ℕ) → bad_start words j ≡ false → (before words j ≡ false) × (block_start words j ≤ cell_count words)
unfolding bad_start before
start_passes words j e =
    let r = or_false (before words j) (ltb (cell_count words) (block_start words j)) e in
    (r.0, ltb-false (cell_count words) (block_start words j) r.1)

pub starts_pass : (words : List ℕ) → (code_count words ≡ 0 → cell_count words ≡ 0) → Below (bad_start words) (code_count words) → Starts words
unfolding before
starts_pass words none pass =
    record {
      none = none;
      first = λ l. eqb-true (block_start words 0) 0 (not-false (eqb (block_start words 0) 0) (start_passes words 0 (pass 0 l)).0);
      rising = λ j l.
          let low : ltb (block_start words (j + 1)) (block_start words ((j + 1) - 1)) ≡ false
          = rw (ne_eqb (j + 1) 0 (omega arith)) at (start_passes words (j + 1) (pass (j + 1) l)).0 in
          omega (arith, ltb-false (block_start words (j + 1)) (block_start words ((j + 1) - 1)) low, ap (block_start words) (add-sub_cancel j 1));
      within = λ j l. (start_passes words j (pass j l)).1;
    }

pub starts_hold : (words : List ℕ) → Starts words → Below (bad_start words) (code_count words)
unfolding bad_start
starts_hold words s zero l =
    rw (eq-eqb (block_start words 0) 0 (s.first l)) (le-ltb (cell_count words) (block_start words 0) (s.within 0 l))
starts_hold words s (suc j) l =
    let back : suc j - 1 ≡ j = omega arith in
    rw (
      ne_eqb (suc j) 0 (omega arith),
      le-ltb (block_start words (suc j)) (block_start words (suc j - 1))
          (omega (arith, rw (add-one j) at (s.rising j (omega arith)), ap (block_start words) back)),
      le-ltb (cell_count words) (block_start words (suc j)) (s.within (suc j) l),
    )
    refl

-- 17
pub multiplier_passes :
    (p : ℕ) (words : List ℕ) (j : ℕ) → 0 < p
    → (bad_block_multiplier p words j ≡ false) ↔ ((1 ≤ block_multiplier words j) × (block_multiplier words j < p))
unfolding bad_block_multiplier
multiplier_passes p words j pos =
    let q : ℕ = block_multiplier words j in
    (λ e. let r = within 1 (p - 1) q e in (r.0, omega arith), λ r. rw (le-ltb q 1 r.0, le-ltb (p - 1) q (omega arith)) refl)

-- 18
both_or_none : (a b : ℕ) → (beq (eqb a 0) (eqb b 0) ≡ true) ↔ ((a ≡ 0) ↔ (b ≡ 0))
both_or_none a b =
    elim (ℕ_discrete a 0) [
      | yes ea ↦
          elim (ℕ_discrete b 0) [
            | yes eb ↦ (λ _. (λ _. eb, λ _. ea), λ _. rw (eq-eqb a 0 ea, eq-eqb b 0 eb) refl)
            | no nb ↦ (λ e. absurd (false≢true (rw (eq-eqb a 0 ea, ne_eqb b 0 nb) at e)), λ iff. absurd (nb (iff.0 ea)))
          ]
      | no na ↦
          elim (ℕ_discrete b 0) [
            | yes eb ↦ (λ e. absurd (false≢true (rw (ne_eqb a 0 na, eq-eqb b 0 eb) at e)), λ iff. absurd (na (iff.1 eb)))
            | no nb ↦ (λ _. (λ e. absurd (na e), λ e. absurd (nb e)), λ _. rw (ne_eqb a 0 na, ne_eqb b 0 nb) refl)
          ]
    ]

pub cell_passes :
    (p : ℕ) (words : List ℕ) (i : ℕ) → 0 < p
    → (bad_cell p words i ≡ false)
    ↔ ((cell_code words i < p) × (cell_schedule words i ≤ 999) × ((cell_code words i ≡ 0) ↔ (cell_schedule words i ≡ 0)))
unfolding bad_cell
cell_passes p words i pos =
    let a : ℕ = cell_code words i in
    let b : ℕ = cell_schedule words i in (
      λ e.
          let code = or_false (ltb (p - 1) a) _ e in
          let schedule = or_false (ltb 999 b) _ code.1 in
          (omega (arith, ltb-false (p - 1) a code.0), ltb-false 999 b schedule.0, (both_or_none a b).0 (not-false _ schedule.1)),
      λ r. rw (le-ltb (p - 1) a (omega arith), le-ltb 999 b r.1, (both_or_none a b).1 r.2) refl,
    )

-- 19
pub place_passes :
    (p : ℕ) (words : List ℕ) (i : ℕ) → Starts words → 0 < code_count words
    → (misplaced p words i ≡ false)
    ↔ (0 < cell_code words i
    → (block_start words (block_of p words (cell_code words i)) < block_end words (block_of p words (cell_code words i)))
    × (own_cell p words (cell_code words i) ≡ i))
unfolding misplaced
place_passes p words i s some =
    let a : ℕ = cell_code words i in
    let j : ℕ = block_of p words a in
    let le : block_start words j ≤ block_end words j = start_le_end words s j (block_lt p words a some) in (
      λ e pos.
          let r = or_false (eqb (block_start words j) (block_end words j)) _ (rw (ne_eqb a 0 (omega arith)) at e) in
          (omega (arith, eqb-false (block_start words j) (block_end words j) r.0), eqb-true (own_cell p words a) i (not-false _ r.1)),
      λ own.
          elim (ℕ_discrete a 0) [
            | yes e ↦ rw (eq-eqb a 0 e) refl
            | no ne ↦
                let r = own (omega arith) in
                rw (ne_eqb a 0 ne, ne_eqb (block_start words j) (block_end words j) (omega arith), eq-eqb (own_cell p words a) i r.1) refl
          ],
    )

-- 20
pub square_passes :
    (words : List ℕ) (j : ℕ) → Starts words → j < code_count words
    → (bad_square words j ≡ false)
    ↔ (block_end words j ≡ block_start words j + codes_in (block_codes words j) * codes_in (block_codes words j))
unfolding bad_square
square_passes words j s l =
    let w : ℕ = block_end words j - block_start words j in
    let m : ℕ = codes_in (block_codes words j) in
    let le : block_start words j ≤ block_end words j = start_le_end words s j l in
    (λ e. omega (arith, eqb-true w (m * m) (not-false (eqb w (m * m)) e)), λ e. rw (eq-eqb w (m * m) (omega arith)) refl)
