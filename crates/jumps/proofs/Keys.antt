-- Codes with the same key stay together: so where the keys have more equal pairs than may be together, a whole run of multipliers fails.
use Prim.Native.Nat.{ℕ, zero, suc, min, ◌+◌, ◌-◌, ◌*◌, ◌%◌, ◌<◌, ◌≤◌}
use native.Mathlib.Decide.{ℕ_discrete}
use native.Mathlib.Nat.{le_refl, mod-lt, min-le_left, min-le_right}
use native.Mathlib.Omega.{arith}
use mathlib.Core.Bool.{Bool, true, false, cond}
use mathlib.Core.List.{List, [], ◌∷◌}
use mathlib.Core.Logic.{inl, inr}
use mathlib.Core.Path.{◌≡◌, refl, sym, ap, ap₂, ◌∙◌}
use borrow.Author.Tests.{eq-eqb, ne_eqb, lt-ltb, le-ltb}
use lib.Dec.{eqb, ltb}
use lib.ListN.{length, get_or, set, drop, length-set}
use lib.Seq.{drop-length, get_or-set_same, get_or-set_other}
use Rattle.hash.specs.Hash.{hash_of, together}
use Rattle.hash.proofs.Counting.{hash_lt}
use Rattle.hash.proofs.Indicators.{true_or_false}
use Rattle.prelude.specs.Tabulate.{tabulate}
use Rattle.prelude.proofs.Tabulate.{tabulate_length, tabulate_at, tabulate_is}
use Rattle.jumps.specs.code.Jumps.{equals, equal_pairs, straight, once, turn, wrapped, key_of, keys_of, company_of, companies, Runs, Fail}
use Rattle.jumps.specs.declared.runs.Run.{Run}
use Rattle.jumps.proofs.Ends.{drop_before}
use Rattle.jumps.proofs.Straight.{moved, moved_once, turn_lt, wrapped_lt}
use Rattle.jumps.proofs.Together.{small_load, others, equals_small, pairs_others, equals_le, pairs_drop}

module _ (run : Run) (pos : 0 < run.prime) (some : 0 < run.places) (small : run.places ≤ 32768) where
  -- whether a code goes straight on, and the lower half of its key
  abbrev on : ℕ → Bool
  on a = straight run.prime run.reach ((run.first * a) % run.prime) ((run.step * a) % run.prime)

  abbrev lower : ℕ → ℕ
  lower a = cond (eqb run.reach 0) 0 (turn run.prime run.places ((run.step * a) % run.prime))

  abbrev place : ℕ → ℕ
  place a = hash_of run.prime run.first run.places a

  key_on : (i a : ℕ) → on a ≡ true → key_of run i a ≡ place a * 65536 + lower a
  unfolding key_of
  key_on i a e = rw e refl

  key_off : (i a : ℕ) → on a ≡ false → key_of run i a ≡ 2147483648 + i
  unfolding key_of
  key_off i a e = rw e refl

  lower_lt : (a : ℕ) → lower a < 65536
  lower_lt a =
      elim (ℕ_discrete run.reach 0) [
        | yes e ↦ rw (eq-eqb run.reach 0 e) (omega arith)
        | no ne ↦ rw (ne_eqb run.reach 0 ne) (omega (arith, turn_lt run.prime run.places ((run.step * a) % run.prime) some))
      ]

  place_lt : (a : ℕ) → place a < 32768
  place_lt a = omega (arith, hash_lt run.prime run.first run.places a some)

  -- the same move, or none at all
  same_move : (a j : ℕ) → j ≤ run.reach → j * turn run.prime run.places ((run.step * a) % run.prime) ≡ j * lower a
  same_move a j l =
      elim (ℕ_discrete run.reach 0) [
        | yes e ↦ let none : j ≡ 0 = omega arith in rw none (omega arith)
        | no ne ↦ rw (ne_eqb run.reach 0 ne) refl
      ]

  -- a key that is small tells the place of its code throughout
  small_key :
      (i a at by : ℕ) → at < 32768 → by < 65536 → key_of run i a ≡ at * 65536 + by → (j : ℕ) → j ≤ run.reach
      → hash_of run.prime (run.first + j * run.step) run.places a ≡ (at + j * by) % run.places
  small_key i a at by at_small by-small is j l =
      elim (true_or_false (on a)) [
        | inl x ↦
            let e : place a * 65536 + lower a ≡ at * 65536 + by = sym (key_on i a x) ∙ is in
            let places : place a ≡ at = omega (arith, lower_lt a) in
            let lowers : lower a ≡ by = omega (arith, lower_lt a) in
            moved run.prime run.places run.first run.step run.reach a j pos some l x
            ∙ ap₂ (λ (m n : ℕ). (m + n) % run.places) places (same_move a j l ∙ ap (λ (n : ℕ). j * n) lowers)
        | inr x ↦ absurd (omega (arith, key_off i a x))
      ]

  pub stay_together :
      (i h a b : ℕ) → (i ≡ h → ⊥) → key_of run i a ≡ key_of run h b → (j : ℕ) → j ≤ run.reach
      → (key_of run i a < 2147483648)
      × (hash_of run.prime (run.first + j * run.step) run.places a ≡ hash_of run.prime (run.first + j * run.step) run.places b)
  stay_together i h a b differ same j l =
      elim (true_or_false (on a)) [
        | inl x ↦ (
          omega (arith, key_on i a x, place_lt a, lower_lt a),
          small_key i a (place a) (lower a) (place_lt a) (lower_lt a) (key_on i a x) j l
              ∙ sym (small_key h b (place a) (lower a) (place_lt a) (lower_lt a) (sym same ∙ key_on i a x) j l),
        )
        | inr x ↦
            elim (true_or_false (on b)) [
              | inl y ↦ absurd (omega (arith, key_off i a x, same, key_on h b y, place_lt b, lower_lt b))
              | inr y ↦ absurd (differ (omega (arith, key_off i a x, same, key_off h b y)))
            ]
      ]

pub keys_sized : (run : Run) (codes : List ℕ) → length (keys_of run codes) ≡ length codes
unfolding keys_of
keys_sized run codes = tabulate_length (λ i. key_of run i (get_or codes i 0)) (length codes)

key_at : (run : Run) (codes : List ℕ) (i : ℕ) → i < length (keys_of run codes) → get_or (keys_of run codes) i 0 ≡ key_of run i (get_or codes i 0)
unfolding keys_of
key_at run codes i l = tabulate_at (λ t. key_of run t (get_or codes t 0)) (length codes) i (omega (arith, keys_sized run codes))

-- a run of codes, j steps on
module _ {run : Run} {codes : List ℕ} (runs : Runs run codes) (j : ℕ) (l : j ≤ run.reach) where
  abbrev placed : ℕ → ℕ
  placed a = hash_of run.prime (run.first + j * run.step) run.places a

  -- the codes in place t that go straight on
  abbrev straights : ℕ → ℕ
  straights t = small_load run.prime (run.first + j * run.step) run.places t (keys_of run codes) codes

  pos : 0 < run.prime
  pos = omega (arith, runs.step_below)

  -- codes with one small key are in one place
  equals_straight : (at by t : ℕ) → at < run.places → by < run.places → (at + j * by) % run.places ≡ t → equals (at * 65536 + by) (keys_of run codes) ≤ straights t
  equals_straight at by t at_small by-small is =
      equals_small run.prime (run.first + j * run.step) run.places (at * 65536 + by) t (keys_of run codes) codes (omega (arith, runs.few_places))
      (keys_sized run codes)
      (λ i less e.
      small_key run pos runs.some_places runs.few_places i (get_or codes i 0) at by (omega (arith, runs.few_places))
      (omega (arith, runs.few_places)) (sym (key_at run codes i less) ∙ e) j l
      ∙ is)

  module _ (a : ℕ) where
    abbrev r : ℕ
    r = (run.first * a) % run.prime

    abbrev s : ℕ
    s = (run.step * a) % run.prime

    abbrev by : ℕ
    by = turn run.prime run.places s

    abbrev from : ℕ
    from = wrapped run.prime run.places r s

    fewer :
        once run.prime run.reach r s ≡ true
        → min (equals (r % run.places * 65536 + by) (keys_of run codes)) (equals (from * 65536 + by) (keys_of run codes)) ≤ straights (placed a)
    unfolding hash_of
    fewer at_most =
        let low : by < run.places = turn_lt run.prime run.places s runs.some_places in
        let before : ℕ = equals (r % run.places * 65536 + by) (keys_of run codes) in
        let later : ℕ = equals (from * 65536 + by) (keys_of run codes) in
        elim (moved_once run.prime run.places run.first run.step run.reach a j pos runs.some_places l at_most) [
          | inl e ↦ omega (arith, min-le_left before later, equals_straight (r % run.places) by (placed a) (mod-lt r runs.some_places) low (sym e))
          | inr e ↦ omega (arith, min-le_right before later, equals_straight from by (placed a) (wrapped_lt run.prime run.places r s runs.some_places) low (sym e))
        ]

    company_le : (own : ℕ) → company_of run (keys_of run codes) own a ≤ cond (ltb own 2147483648) 0 (straights (placed a))
    unfolding company_of
    company_le own =
        elim (true_or_false (ltb own 2147483648)) [
          | inl small ↦ rw small (omega arith)
          | inr large ↦
              elim (true_or_false (once run.prime run.reach r s)) [
                | inl at_most ↦ rw (large, at_most) (fewer at_most)
                | inr many ↦ rw (large, many) (omega arith)
              ]
        ]

  companies_le :
      (keys some : List ℕ) → companies run (keys_of run codes) keys some ≤ others run.prime (run.first + j * run.step) run.places (λ t. straights t) keys some
  unfolding companies others
  companies_le [] some = omega arith
  companies_le (x ∷ keys) [] = omega arith
  companies_le (x ∷ keys) (a ∷ some) = omega (arith, company_le a x, companies_le keys some)

  pub keys_together :
      equal_pairs (keys_of run codes) + companies run (keys_of run codes) (keys_of run codes) codes
      ≤ together run.prime (run.first + j * run.step) run.places codes
  keys_together =
      omega (
        arith,
        companies_le (keys_of run codes) codes,
        pairs_others run.prime (run.first + j * run.step) run.places (keys_of run codes) codes (keys_sized run codes)
            (λ i h before short same.
            let i-short : i < length (keys_of run codes) = omega arith in
            let (small, one_place) =
            stay_together run pos runs.some_places runs.few_places i h (get_or codes i 0) (get_or codes h 0)
            (λ e. absurd (omega arith))
            (sym (key_at run codes i i-short) ∙ same ∙ key_at run codes h short)
            j l in
            (rw (key_at run codes i i-short) small, one_place)),
      )

-- more equal pairs of keys than may be together, and pairs of a code that wraps once: the first multiplier of the run fails, and as many more as it reaches
pub keys_fail :
    {run : Run} {codes : List ℕ} → Runs run codes
    → run.most < equal_pairs (keys_of run codes) + companies run (keys_of run codes) (keys_of run codes) codes
    → Fail run run.step codes (run.reach + 1)
keys_fail {run} {codes} runs over =
    record { within = le_refl (run.reach + 1); over = λ j less. omega (arith, over, keys_together runs j (omega arith)) }

-- the key by its parts, as they are worked out
module _ (run : Run) (a : ℕ) {r s : ℕ} {on : Bool} (at : r ≡ (run.first * a) % run.prime) (by : s ≡ (run.step * a) % run.prime)
    (is : on ≡ straight run.prime run.reach r s)
  where
    goes : (b : Bool) → on ≡ b → straight run.prime run.reach ((run.first * a) % run.prime) ((run.step * a) % run.prime) ≡ b
    goes b e = rw (← at, ← by) (sym is ∙ e)

    pub key_leaves : (i : ℕ) → on ≡ false → 2147483648 + i ≡ key_of run i a
    unfolding key_of
    key_leaves i e = rw (goes false e) refl

    pub key_alone : (i : ℕ) → on ≡ true → run.reach ≡ 0 → r % run.places * 65536 ≡ key_of run i a
    unfolding key_of hash_of
    key_alone i e none = rw (goes true e, eq-eqb run.reach 0 none, at) (omega arith)

    pub key_moves :
        (i t : ℕ) → on ≡ true → (run.reach ≡ 0 → ⊥) → t ≡ turn run.prime run.places s
        → r % run.places * 65536 + t ≡ key_of run i a
    unfolding key_of hash_of
    key_moves i t e some moves = rw (goes true e, ne_eqb run.reach 0 some, at, moves, by) refl

-- the company of a code by its parts
module _ (run : Run) (keys : List ℕ) (own a : ℕ) where
  pub company_straight : own < 2147483648 → 0 ≡ company_of run keys own a
  unfolding company_of
  company_straight small = rw (lt-ltb own 2147483648 small) refl

  module _ (large : 2147483648 ≤ own) {r s : ℕ} {at_most : Bool} (at : r ≡ (run.first * a) % run.prime) (by : s ≡ (run.step * a) % run.prime)
      (is : at_most ≡ once run.prime run.reach r s)
    where
      wraps : (b : Bool) → at_most ≡ b → once run.prime run.reach ((run.first * a) % run.prime) ((run.step * a) % run.prime) ≡ b
      wraps b e = rw (← at, ← by) (sym is ∙ e)

      pub company_none : at_most ≡ false → 0 ≡ company_of run keys own a
      unfolding company_of
      company_none e = rw (le-ltb own 2147483648 large, wraps false e) refl

      pub company_empty :
          {t before : ℕ} → at_most ≡ true → t ≡ turn run.prime run.places s → before ≡ equals (r % run.places * 65536 + t) keys → before ≡ 0
          → 0 ≡ company_of run keys own a
      unfolding company_of
      company_empty {t} {before} e turns counted none =
          let least : (x : ℕ) → 0 ≡ min before x = λ x. omega (arith, min-le_left before x) in
          rw (le-ltb own 2147483648 large, wraps true e, ← at, ← by, ← turns, ← counted) (least (equals (wrapped run.prime run.places r s * 65536 + t) keys))

      pub company_fewer :
          {t from before later z : ℕ} → at_most ≡ true → t ≡ turn run.prime run.places s → from ≡ wrapped run.prime run.places r s
          → before ≡ equals (r % run.places * 65536 + t) keys → later ≡ equals (from * 65536 + t) keys → z ≡ min before later
          → z ≡ company_of run keys own a
      unfolding company_of
      company_fewer e turns wraps-to counted counted-later least =
          least ∙ rw (le-ltb own 2147483648 large, wraps true e, counted, counted-later, turns, wraps-to, at, by) refl

-- ---- pairs of equal keys and of codes that wrap once, from the last on

pub company_short : (run : Run) (keys : List ℕ) (own a : ℕ) → company_of run keys own a ≤ length keys
unfolding company_of
company_short run keys own a =
    elim (true_or_false (ltb own 2147483648)) [
      | inl small ↦ rw small (omega arith)
      | inr large ↦
          elim (true_or_false (once run.prime run.reach ((run.first * a) % run.prime) ((run.step * a) % run.prime))) [
            | inl at_most ↦ rw (large, at_most) (short _ _)
            | inr many ↦ rw (large, many) (omega arith)
          ]
    ]
  where
    short : (x y : ℕ) → min (equals x keys) (equals y keys) ≤ length keys
    short x y = omega (arith, min-le_left (equals x keys) (equals y keys), equals_le x keys)

companies_drop : (run : Run) (keys s codes : List ℕ) (i : ℕ) → companies run keys (drop i s) (drop i codes) ≤ companies run keys s codes
unfolding companies
companies_drop run keys s codes zero = le_refl (companies run keys s codes)
companies_drop run keys [] codes (suc i) = omega arith
companies_drop run keys (x ∷ s) [] (suc i) = none (drop i s)
  where
    none : (s : List ℕ) → companies run keys s [] ≤ 0
    none [] = omega arith
    none (x ∷ s) = omega arith
companies_drop run keys (x ∷ s) (a ∷ codes) (suc i) = omega (arith, companies_drop run keys s codes i)

module _ (run : Run) (keys : List ℕ) where
  abbrev pub joined : List ℕ → List ℕ → ℕ
  joined s codes = equal_pairs s + companies run keys s codes

  pub joined_none : (s codes : List ℕ) → joined (drop (length s) s) (drop (length s) codes) ≡ 0
  unfolding companies equal_pairs
  joined_none s codes = rw (drop-length s) (omega arith)

  pub joined_more :
      (s codes : List ℕ) (i : ℕ) → length s ≡ length codes → 0 < i → i ≤ length s
      → joined (drop (i - 1) s) (drop (i - 1) codes)
      ≡ equals (get_or s (i - 1) 0) (drop i s) + company_of run keys (get_or s (i - 1) 0) (get_or codes (i - 1) 0) + joined (drop i s) (drop i codes)
  unfolding companies equal_pairs
  joined_more s codes i same pos le = rw (drop_before s i pos le, drop_before codes i pos (omega (arith, same))) (omega arith)

  pub joined_drop : (s codes : List ℕ) (i : ℕ) → joined (drop i s) (drop i codes) ≤ joined s codes
  joined_drop s codes i = omega (arith, pairs_drop s i, companies_drop run keys s codes i)

  pub joined_all : {n : ℕ} (s codes : List ℕ) (i : ℕ) → i ≤ 0 → n ≡ joined (drop i s) (drop i codes) → joined s codes ≡ n
  joined_all {n} s codes i end e =
      let none : i ≡ 0 = omega arith in sym (e ∙ ap (λ (j : ℕ). joined (drop j s) (drop j codes)) none)

-- the keys of the first i codes are filled in
pub record Keyed (run : Run) (codes : List ℕ) (i : ℕ) (keys : List ℕ) : Type 0 where
  pub left : i ≤ length codes
  pub sized : length keys ≡ length codes
  pub keyed : (t : ℕ) → t < i → get_or keys t 0 ≡ key_of run t (get_or codes t 0)

pub keyed_start : {run : Run} {codes keys : List ℕ} → length keys ≡ length codes → Keyed run codes 0 keys
keyed_start sized = record { left = omega arith; sized = sized; keyed = λ t l. absurd (omega arith) }

pub keyed_more :
    {run : Run} {codes keys : List ℕ} {i x : ℕ} → Keyed run codes i keys → i < length codes → x ≡ key_of run i (get_or codes i 0)
    → Keyed run codes (i + 1) (set keys i x)
keyed_more {run} {codes} {keys} {i} {x} h l is =
    record {
      left = omega arith;
      sized = length-set keys i x ∙ h.sized;
      keyed = λ t less.
          elim (ℕ_discrete t i) [
            | yes e ↦ rw e (get_or-set_same keys i x 0 (omega (arith, h.sized)) ∙ is)
            | no ne ↦ get_or-set_other keys i t x 0 ne ∙ h.keyed t (omega arith)
          ];
    }

pub keyed_all : {run : Run} {codes keys : List ℕ} {i : ℕ} → Keyed run codes i keys → length codes ≤ i → keys ≡ keys_of run codes
unfolding keys_of
keyed_all {run} {codes} {keys} {i} h end =
    tabulate_is (λ t. key_of run t (get_or codes t 0)) keys (λ t l. h.keyed t (omega (arith, h.sized))) ∙ ap (tabulate _) h.sized
