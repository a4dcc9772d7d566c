-- Multipliers that are passed over: jump after jump along a run, remainder after remainder in a stretch, stretch after stretch.
use Prim.Native.Nat.{ℕ, max, ◌+◌, ◌*◌, ◌-◌, ◌/◌, ◌%◌, ◌<◌, ◌≤◌}
use native.Mathlib.Decide.{ℕ_discrete, dec_le, dec_lt}
use native.Mathlib.Nat.{add-sub_of_le, le-max_left, max-le, mod-lt, div-add-mod', mul-le-mul_left, mul-le-mul_right, lt_of_mul-lt-mul_right}
use native.Mathlib.Omega.{arith}
use mathlib.Core.Bool.{cond}
use mathlib.Core.List.{List}
use mathlib.Core.Logic.{◌⊎◌, inl, inr}
use mathlib.Core.Path.{◌≡◌, ap}
use borrow.Author.Tests.{le-leb, lt-leb}
use lib.Dec.{leb}
use Rattle.hash.specs.Hash.{together}
use Rattle.jumps.specs.code.Jumps.{Runs, Ends, run_from, Fail, Passed}
use Rattle.jumps.specs.declared.runs.Run.{Run}

-- another run of the same codes
pub runs_from :
    {run : Run} {codes : List ℕ} → Runs run codes → (g k reach : ℕ) → 0 < g → g < run.prime → Runs (run_from run g k reach) codes
runs_from runs g k reach forward step_below =
    record {
      valid = runs.valid;
      short = runs.short;
      bounded = runs.bounded;
      some_places = runs.some_places;
      few_places = runs.few_places;
      forward = forward;
      step_below = step_below;
    }

-- ---- a run

-- none of it is known to fail
pub none_fail : {run : Run} {g : ℕ} {codes : List ℕ} → Fail run g codes 0
none_fail = record { within = omega arith; over = λ j l. absurd (omega arith) }

module _ {run : Run} {codes : List ℕ} (runs : Runs run codes) (ends : Ends run run.step) where
  -- the same by the same step
  pub runs_on : (k reach : ℕ) → Runs (run_from run run.step k reach) codes
  runs_on k reach = runs_from runs run.step k reach runs.forward runs.step_below

  -- a run has no more multipliers than there are below the prime
  pub runs_reach : run.reach + 1 ≤ run.prime
  runs_reach = omega (arith, ends, reach_le run.step runs.forward)
    where
      reach_le : (g : ℕ) → 0 < g → run.reach ≤ run.reach * g
      reach_le g pos = omega (arith, mul-le-mul_left run.reach pos)

  -- where d of them fail and the rest begins
  module _ {d : ℕ} (l : d ≤ run.reach) where
    pub rest_first : run.first + d * run.step < run.prime
    rest_first = omega (arith, ends, mul-le-mul_right run.step l)

    pub rest_ends : (reach : ℕ) → reach ≤ run.reach - d → Ends (run_from run run.step (run.first + d * run.step) reach) run.step
    rest_ends reach small = let all : d + reach ≤ run.reach = omega arith in omega (arith, ends, mul-le-mul_right run.step all)

    -- n of the rest fail: so do d and n
    pub fail_on :
        {n reach : ℕ} → reach ≤ run.reach - d → Fail run run.step codes d
        → Fail (run_from run run.step (run.first + d * run.step) reach) run.step codes n
        → Fail run run.step codes (d + n)
    fail_on {n} {reach} small before rest = record { within = omega (arith, rest.within); over = over }
      where
        over : (j : ℕ) → j < d + n → run.most < together run.prime (run.first + j * run.step) run.places codes
        over j less =
            elim (dec_lt j d) [
              | yes early ↦ before.over j early
              | no late ↦
                  let i : ℕ = j - d in
                  let back : d + i ≡ j = add-sub_of_le (omega arith) in
                  let e : run.first + d * run.step + i * run.step ≡ run.first + j * run.step =
                  omega (arith, ap (λ (m : ℕ). m * run.step) back) in
                  rw (← e) (rest.over i (omega arith))
            ]

-- ---- a stretch: those with one of the first i remainders are gone through

pub record Swept (run : Run) (codes : List ℕ) (i found : ℕ) : Type 0 where
  pub left : i ≤ run.step
  pub within : found ≤ run.reach + 1
  pub over : (x : ℕ) → x < found → x % run.step < i → run.most < together run.prime (run.first + x) run.places codes

pub swept_start : {run : Run} {codes : List ℕ} → Swept run codes 0 (run.reach + 1)
swept_start {run} {codes} = record { left = omega arith; within = omega arith; over = λ x l m. absurd (omega arith) }

-- all remainders are, or all that there are multipliers for
pub swept_all : {run : Run} {codes : List ℕ} {i found : ℕ} → 0 < run.step → (run.step ≤ i) ⊎ (found ≤ i) → Swept run codes i found → Fail run 1 codes found
swept_all {run} {codes} {i} {found} pos end h =
    record {
      within = h.within;
      over = λ j l.
          let e : run.first + j * 1 ≡ run.first + j = omega arith in
          rw e (h.over j l (small j l end));
    }
  where
    small : (j : ℕ) → j < found → (run.step ≤ i) ⊎ (found ≤ i) → j % run.step < i
    small j l (inl all) = omega (arith, mod-lt j pos)
    small j l (inr few) = omega (arith, div-add-mod' j run.step)

-- the multipliers of remainder i, up to what was found
module _ {run : Run} {codes : List ℕ} {i found : ℕ} (pos : 0 < run.step) (h : Swept run codes i found) (l : i < found) where
  last : ℕ
  last = (found - 1 - i) / run.step

  -- the last of them comes before what was found
  pub remainder_within : i + (found - 1 - i) / run.step * run.step < found
  remainder_within = omega (arith, div-add-mod' (found - 1 - i) run.step)

  pub remainder_ends : Ends run 1 → Ends (run_from run run.step (run.first + i) ((found - 1 - i) / run.step)) run.step
  remainder_ends ends = omega (arith, remainder_within, h.within, ends)

  module _ {n : ℕ} (failed : Fail (run_from run run.step (run.first + i) ((found - 1 - i) / run.step)) run.step codes n) where
    -- the one with remainder i fails, where it comes before the n-th
    own : (x : ℕ) → x % run.step ≡ i → x / run.step < n → run.most < together run.prime (run.first + x) run.places codes
    own x is less =
        let e : run.first + i + x / run.step * run.step ≡ run.first + x = omega (arith, div-add-mod' x run.step) in
        rw (← e) (failed.over (x / run.step) less)

    -- one of them may pass: it is the next that is found
    pub swept_found : i < run.step → n ≤ (found - 1 - i) / run.step → Swept run codes (i + 1) (i + n * run.step)
    unfolding last
    swept_found less few =
        let up : i + n * run.step < found = omega (arith, remainder_within, mul-le-mul_right run.step few) in
        record {
          left = omega arith;
          within = omega (arith, h.within);
          over = λ x below m.
              elim (ℕ_discrete (x % run.step) i) [
                | yes e ↦
                    own x e (lt_of_mul-lt-mul_right run.step (omega (arith, div-add-mod' x run.step)))
                | no ne ↦ h.over x (omega arith) (omega arith)
              ];
        }

    -- all of them fail
    pub swept_more : i < run.step → (found - 1 - i) / run.step < n → Swept run codes (i + 1) found
    unfolding last
    swept_more less all =
        record {
          left = omega arith;
          within = h.within;
          over = λ x below m.
              elim (ℕ_discrete (x % run.step) i) [
                | yes e ↦ own x e (before x below e)
                | no ne ↦ h.over x below (omega arith)
              ];
        }
      where
        before : (x : ℕ) → x < found → x % run.step ≡ i → x / run.step < n
        before x l e =
            let up : (found - 1 - i) < (last + 1) * run.step =
            omega (arith, div-add-mod' (found - 1 - i) run.step, mod-lt (found - 1 - i) pos) in
            let least : x / run.step < last + 1 =
            lt_of_mul-lt-mul_right run.step (omega (arith, div-add-mod' x run.step)) in
            omega arith

    -- so in either case
    pub swept_next : {r : ℕ} → i < run.step → r ≡ cond (leb n ((found - 1 - i) / run.step)) (i + n * run.step) found → Swept run codes (i + 1) r
    swept_next less is =
        elim (dec_le n ((found - 1 - i) / run.step)) [
          | yes few ↦ rw (is, le-leb n ((found - 1 - i) / run.step) few) (swept_found less few)
          | no all ↦ rw (is, lt-leb n ((found - 1 - i) / run.step) (omega arith)) (swept_more less (omega arith))
        ]

-- ---- stretch after stretch

-- none yet
pub passed_none : {p w most : ℕ} {codes : List ℕ} {k : ℕ} → Passed p w most codes k k
passed_none = record { from = omega arith; over = λ j l m. absurd (omega arith) }

module _ (run : Run) {codes : List ℕ} where
  pub passed_more :
      {k n g reach : ℕ} → Passed run.prime run.places run.most codes run.first k
      → Fail (run_from run g k reach) 1 codes n
      → Passed run.prime run.places run.most codes run.first (k + n)
  passed_more {k} {n} {g} {reach} before failed =
      record {
        from = omega (arith, before.from);
        over = λ j l m.
            elim (dec_lt j k) [
              | yes early ↦ before.over j l early
              | no late ↦
                  let i : ℕ = j - k in
                  let e : k + i * 1 ≡ j = omega arith in
                  rw (← e) (failed.over i (omega arith))
            ];
      }

-- what is passed over from 1 on, and then from there or from k on
pub passed_after :
    {p w most : ℕ} {codes : List ℕ} {k s m r : ℕ} → 1 ≤ k → Passed p w most codes 1 s → m ≡ max k s → Passed p w most codes m r
    → Passed p w most codes k r
passed_after {p} {w} {most} {codes} {k} {s} {m} {r} pos before is later =
    record {
      from = omega (arith, later.from, le-max_left k s);
      over = λ j l less.
          elim (dec_lt j s) [
            | yes early ↦ before.over j (omega arith) early
            | no late ↦ later.over j (rw is (max-le l (omega arith))) less
          ];
    }
