-- Panels by holds: what decides one, what ends it, which holds matter, and that rising holds leave it as it was.
use Prim.Native.Nat.{ℕ, ◌+◌, ◌-◌, ◌<◌, ◌≤◌}
use native.Mathlib.Decide.{dec_lt}
use native.Mathlib.Nat.{le_antisymm, add-sub_cancel}
use native.Mathlib.Omega.{arith}
use mathlib.Core.Bool.{false}
use mathlib.Core.List.{List, [], ◌∷◌}
use mathlib.Core.Logic.{◌⊎◌, ◌↔◌, inl, inr, ⊎_elim}
use mathlib.Core.Path.{◌≡◌, refl, sym, ap, ◌∙◌}
use borrow.Author.Tests.{eqb-true, eqb-false, eq-eqb, ne_eqb, lt-ltb, le-ltb, ltb-false}
use lib.Dec.{eqb, ltb, lit≤}
use lib.ListN.{length, get_or}
use Rattle.hash.proofs.Indicators.{true_or_false}
use Rattle.prelude.specs.Answers.{Answer, given, absent, unknown, refused, first_of}
use Rattle.prelude.specs.Numbers.{found_value_of}
use Rattle.prelude.proofs.First.{Below, first_found, first_none}
use Rattle.prelude.proofs.Refusals.{never_both, refuse_not}
use Rattle.lookup.proofs.Tells.{Tells, lookup_tells, lookup_stands}
use Rattle.panel.specs.Panel.{hold_of, bad_holds, ends, ended_of, largest_of, walk_of, panel_of}
use Rattle.panel.proofs.Deciding.{Decides, largest_above, largest_reached}
use Rattle.panel.proofs.Past.{right_holds, panel_past}
use Rattle.panel.proofs.Walking.{answer, schedule, NoneEnds, goes_on, walk_decided, walk_ends, walk_cases}
use Rattle.demands.specs.Lists.{FoundWith}
use Rattle.demands.specs.Panels.{RightHolds, Rising, DecidedBy, Met, not_found, walk_by_number, panel_by_number}
use Rattle.demands.specs.Theorems.{Panels}

-- ---- 74

holds_right : (holds : List ℕ) → (bad_holds holds ≡ false) ↔ RightHolds holds
holds_right holds = (
  λ e.
      let (number, low) = (right_holds holds).0 e in
      record { number = number; at_most = λ s from to. low (s - 1) (omega arith) },
  λ r.
      let number = r.number in
      (right_holds holds).1 (number, λ i l. rw (add-sub_cancel i 1) at (r.at_most (i + 1) (omega arith) (omega arith))),
)

-- ---- an answer that is not the one supposed

ended_given : {A : Type 0} (a : Answer) (i : ℕ) {values : List ℕ} → ended_of a i ≡ given values → A
ended_given (given found) i e = never_both refl e
ended_given absent i e = let z : ◌≡◌ {A = ℕ} 0 1 = cc e in absurd (omega arith)
ended_given (unknown j) i e = let z : ◌≡◌ {A = ℕ} 0 1 = cc e in absurd (omega arith)
ended_given (refused number value) i e = never_both refl e

other_number : {number : ℕ} → number ≤ 74 → number ≡ 75 → ⊥
other_number low same = omega arith

module _ (p limit : ℕ) (words codes : List ℕ) where
  abbrev at_code : ℕ → Answer
  at_code = answer p limit words codes

  abbrev named : ℕ → ℕ
  named = schedule p limit words codes

  module _ (holds : List ℕ) where
    -- an answer that is none of 35, 36 and 74 is the walk's
    passed :
        {r : Answer} → ((number : ℕ) → number ≤ 74 → refused number 0 ≡ r → ⊥) → panel_of p limit words holds codes ≡ r
        → (0 < length codes) × (length codes ≤ 64) × (bad_holds holds ≡ false) × (walk_of p limit words holds codes ≡ r)
    unfolding panel_of
    passed other e =
        let past-35 = refuse_not (eqb (length codes) 0) 35 0 _ (other 35 (lit≤ tt)) e in
        let past-36 = refuse_not (ltb 64 (length codes)) 36 0 _ (other 36 (lit≤ tt)) past-35.1 in
        let past-74 = refuse_not (bad_holds holds) 74 0 _ (other 74 (lit≤ tt)) past-36.1 in
        let some = eqb-false (length codes) 0 past-35.0 in
        (omega arith, ltb-false 64 (length codes) past-36.0, past-74.0, past-74.1)

    -- a code found with a schedule in use does not end it
    used : (x t : ℕ) → FoundWith p limit words (get_or codes x 0) t → 1 ≤ hold_of holds t → ends holds (at_code x) ≡ false
    used x t (i, found) in_use = ap (ends holds) found ∙ ne_eqb (hold_of holds t) 0 (λ none. omega arith)

    -- ---- what decides

    decided_by : (s i x : ℕ) → NoneEnds p limit words codes holds (length codes) → Decides holds (length codes) named x
        → at_code x ≡ given (s ∷ i ∷ []) → DecidedBy p limit words holds codes s i
    decided_by s i x none decides found =
        let its-name : named x ≡ s = ap found_value_of found in
        let (s', i', u) = goes_on p limit words codes holds x (none x decides.in_panel) in
        let same : s' ≡ s = sym (ap found_value_of u.found) ∙ its-name in
        record {
          index = x;
          in_panel = decides.in_panel;
          found = found;
          in_use = rw same at u.in_use;
          others = λ y l.
              let (t, at, v) = goes_on p limit words codes holds y (none y l) in
              let its : named y ≡ t = ap found_value_of v.found in (
                t,
                (at, v.found),
                v.in_use,
                rw (its, its-name) at (decides.longest_hold y l),
                λ e. rw (its, its-name) at (decides.least_number y l (ap (hold_of holds) its ∙ e ∙ sym (ap (hold_of holds) its-name))),
                λ before e. decides.first_code y before (its ∙ e ∙ sym its-name),
              );
        }

    none_ended : {s i : ℕ} → DecidedBy p limit words holds codes s i → NoneEnds p limit words codes holds (length codes)
    none_ended d x l = let (t, found, in_use, no_longer, no_less, another) = d.others x l in used x t found in_use

    index_decides : {s i : ℕ} (d : DecidedBy p limit words holds codes s i) → Decides holds (length codes) named d.index
    index_decides {s} {i} d =
        let its-name : named d.index ≡ s = ap found_value_of d.found in
        record {
          in_panel = d.in_panel;
          longest_hold = λ y l.
              let (t, found, in_use, no_longer, no_less, another) = d.others y l in
              let its : named y ≡ t = ap found_value_of found.1 in
              rw (its, its-name) no_longer;
          least_number = λ y l e.
              let (t, found, in_use, no_longer, no_less, another) = d.others y l in
              let its : named y ≡ t = ap found_value_of found.1 in
              rw (its, its-name) (no_less (sym (ap (hold_of holds) its) ∙ e ∙ ap (hold_of holds) its-name));
          first_code = λ y before e.
              let inside = d.in_panel in
              let (t, found, in_use, no_longer, no_less, another) = d.others y (omega arith) in
              let its : named y ≡ t = ap found_value_of found.1 in
              another before (sym its ∙ e ∙ its-name);
        }

    decided : (s i : ℕ) → (panel_of p limit words holds codes ≡ given (s ∷ i ∷ [])) ↔ ((length codes ≤ 64) × RightHolds holds × DecidedBy p limit words holds codes s i)
    decided s i = (
      λ e.
          let (some, few, right, walked) = passed (λ number _ same. never_both (sym same) refl) e in (
            few,
            (holds_right holds).0 right,
            ⊎_elim
                (λ (j, stops). ended_given (at_code j) j (sym stops.walked ∙ walked))
                (λ (x, goes). decided_by s i x goes.none_ends goes.decides (sym goes.walked ∙ walked))
                (walk_cases p limit words codes holds some),
          ),
      λ (few, right, d).
          let inside = d.in_panel in
          panel_past p limit words holds codes (λ none. omega arith) few ((holds_right holds).1 right)
          ∙ walk_decided p limit words codes holds d.index (none_ended d) (index_decides d)
          ∙ d.found,
    )

    -- ---- what ends it

    ended_number :
        (code i : ℕ) (a : Answer) {number value : ℕ} → Tells p words code a → ended_of a i ≡ refused number value
        → (value ≡ i) × (((number ≡ 75) × ((values : List ℕ) × (a ≡ given values))) ⊎ (number ≤ 34))
    unfolding Tells
    ended_number code i (given values) t e = (cc, inl (cc, (values, refl)))
    ended_number code i absent t e = let z : ◌≡◌ {A = ℕ} 0 1 = cc e in absurd (omega arith)
    ended_number code i (unknown j) t e = absurd t
    ended_number code i (refused number' value') {number = number} (from, to, none) e =
        let same : number' ≡ number = cc e in
        (cc, inr (omega arith))

    -- by 75 only where a schedule that is not in use is met, and never by 74
    walk_refused :
        {number value : ℕ} → 0 < length codes → walk_of p limit words holds codes ≡ refused number value
        → (number ≤ 34) ⊎ ((number ≡ 75) × ((s : ℕ) × Met p limit words holds codes value s × (hold_of holds s ≡ 0)))
    walk_refused some e =
        ⊎_elim
        (λ (i, stops).
        let (there, how) = ended_number (get_or codes i 0) i (at_code i) (lookup_tells p words (get_or codes i 0) limit) (sym stops.walked ∙ e) in
        ⊎_elim
        (λ (by-75, (values, found)).
        let stands = lookup_stands p words (get_or codes i 0) limit found in
        let found' = found ∙ ap given stands.found in
        inr (
          by-75,
          (
            _,
            rw there
                (record {
                  in_panel = stops.in_panel;
                  found = (_, found');
                  before = λ x l. let (t, at, u) = goes_on p limit words codes holds x (stops.before x l) in (t, (at, u.found), u.in_use);
                }),
            eqb-true _ 0 (ap (ends holds) (sym found') ∙ stops.ended),
          ),
        ))
        inl
        how)
        (λ (x, goes).
        let (s, i, u) = goes_on p limit words codes holds x (goes.none_ends x goes.decides.in_panel) in
        never_both (sym goes.walked ∙ e) u.found)
        (walk_cases p limit words codes holds some)

    not_in_use :
        (i : ℕ)
        → (panel_of p limit words holds codes ≡ refused 75 i)
        ↔ ((length codes ≤ 64) × RightHolds holds × ((s : ℕ) × Met p limit words holds codes i s × (hold_of holds s ≡ 0)))
    not_in_use i = (
      λ e.
          let (some, few, right, walked) = passed (λ number low same. other_number low cc) e in
          (few, (holds_right holds).0 right, ⊎_elim (λ low. absurd (omega arith)) (λ (_, met). met) (walk_refused some walked)),
      λ (few, right, (s, met, unused)).
          let inside = met.in_panel in
          panel_past p limit words holds codes (λ none. omega arith) few ((holds_right holds).1 right)
          ∙ sym
          (walk_ends p limit words codes holds i _ inside (λ x l. let (t, found, in_use) = met.before x l in used x t found in_use)
          (sym met.found.1)
          (eq-eqb (hold_of holds s) 0 unused)),
    )

    bad_holds_lem : 1 ≤ length codes → length codes ≤ 64 → (panel_of p limit words holds codes ≡ refused 74 0) ↔ (RightHolds holds → ⊥)
    unfolding panel_of
    bad_holds_lem some few = (
      λ e right.
          let walked = sym (panel_past p limit words holds codes (λ none. omega arith) few ((holds_right holds).1 right)) ∙ e in
          ⊎_elim (λ low. omega arith) (λ (by-75, _). omega arith) (walk_refused some walked),
      λ wrong.
          ⊎_elim
          (λ bad. rw (ne_eqb (length codes) 0 (λ none. omega arith), le-ltb 64 (length codes) few, bad))
          (λ right. absurd (wrong ((holds_right holds).0 right)))
          (true_or_false (bad_holds holds)),
    )

    -- ---- which holds matter

    -- where no code ends it, each is met
    met_there :
        (x : ℕ) → x < length codes → NoneEnds p limit words codes holds x → (s i : ℕ)
        → at_code x ≡ given (s ∷ i ∷ []) → Met p limit words holds codes x s
    met_there x l below s i found =
        record {
          in_panel = l;
          found = (i, found);
          before = λ y m. let (t, at, u) = goes_on p limit words codes holds y (below y m) in (t, (at, u.found), u.in_use);
        }

    module _ (others : List ℕ) (same : (i s : ℕ) → Met p limit words holds codes i s → hold_of others s ≡ hold_of holds s) where
      -- a code that the walk comes to ends it by both holds or by neither
      ends_same :
          (x : ℕ) → x < length codes → NoneEnds p limit words codes holds x → (a : Answer)
          → at_code x ≡ a → ends others a ≡ ends holds a
      ends_same x l below (given values) e =
          let stands = lookup_stands p words (get_or codes x 0) limit e in
          let its = same x _ (met_there x l below _ _ (e ∙ ap given stands.found)) in
          rw stands.found (ap (λ (h : ℕ). eqb h 0) its)
      ends_same x l below absent e = refl
      ends_same x l below (unknown i) e = refl
      ends_same x l below (refused number value) e = refl

      held_same : NoneEnds p limit words codes holds (length codes) → (y : ℕ) → y < length codes
          → hold_of others (named y) ≡ hold_of holds (named y)
      held_same none y l =
          let (s, i, u) = goes_on p limit words codes holds y (none y l) in
          let its = same y s (met_there y l (λ z m. none z (omega arith)) s i u.found) in
          rw (ap found_value_of u.found) its

      walk_same : 0 < length codes → walk_of p limit words others codes ≡ walk_of p limit words holds codes
      walk_same some =
          ⊎_elim
          (λ (i, stops).
          let inside = stops.in_panel in
          let still : Below (λ y. ends others (at_code y)) i =
          λ y l. ends_same y (omega arith) (λ z m. stops.before z (omega arith)) _ refl ∙ stops.before y l in
          sym (walk_ends p limit words codes others i _ inside still refl (ends_same i inside stops.before _ refl ∙ stops.ended)) ∙ sym stops.walked)
          (λ (x, goes).
          let none = goes.none_ends in
          let d = goes.decides in
          walk_decided p limit words codes others x (λ y l. ends_same y l (λ z m. none z (omega arith)) _ refl ∙ none y l)
          (record {
            in_panel = d.in_panel;
            longest_hold = λ y l. rw (held_same none y l, held_same none x d.in_panel) (d.longest_hold y l);
            least_number = λ y l e. d.least_number y l (sym (held_same none y l) ∙ e ∙ held_same none x d.in_panel);
            first_code = d.first_code;
          })
          ∙ sym goes.walked)
          (walk_cases p limit words codes holds some)

      met : bad_holds holds ≡ false → bad_holds others ≡ false → panel_of p limit words others codes ≡ panel_of p limit words holds codes
      unfolding panel_of
      met right right' =
          ⊎_elim
          (λ none. rw none)
          (λ some. let there = eqb-false (length codes) 0 some in rw (right, right', walk_same (omega arith)))
          (true_or_false (eqb (length codes) 0))

    -- ---- holds that rise with the number

    module _ (rising : Rising holds) where
      positive : {h : ℕ} → 1 ≤ h → h ≡ 0 → ⊥
      positive low none = omega arith

      -- a code that is found is in use
      ends_unfound :
          (x : ℕ) (a : Answer) → at_code x ≡ a → ends holds a ≡ not_found a
      ends_unfound x (given values) e =
          let stands = lookup_stands p words (get_or codes x 0) limit e in
          let in_use = rising.in_use _ stands.from_one stands.to_999 in
          rw stands.found (ne_eqb (hold_of holds _) 0 (λ none. absurd (positive in_use none)))
      ends_unfound x absent e = refl
      ends_unfound x (unknown i) e = refl
      ends_unfound x (refused number value) e = refl

      in_range :
          NoneEnds p limit words codes holds (length codes) → (y : ℕ) → y < length codes
          → (1 ≤ named y) × (named y ≤ 999)
      in_range none y l =
          let (s, i, u) = goes_on p limit words codes holds y (none y l) in
          rw (ap found_value_of u.found) u.range

      -- no schedule is above one whose hold is the longest
      no_larger : (s t : ℕ) → (1 ≤ s) × (s ≤ 999) → (1 ≤ t) × (t ≤ 999) → hold_of holds t ≤ hold_of holds s → t ≤ s
      no_larger s t (from, to) (from', to') no_longer =
          elim (dec_lt s t) [ yes l ↦ let longer = rising.rise s t from l to' in absurd (omega arith) | no ge ↦ omega arith ]

      -- a code that decides is the first with the largest schedule
      first_largest :
          (x : ℕ) → NoneEnds p limit words codes holds (length codes)
          → Decides holds (length codes) named x
          → first_of (length codes) (λ y. eqb (named y) (largest_of (length codes) named)) ≡ x
      first_largest x none d =
          let inside = d.in_panel in
          let (y, below, reached) = largest_reached (length codes) named (omega arith) in
          let its : largest_of (length codes) named ≡ named x =
          le_antisymm (rw reached at (no_larger _ _ (in_range none x inside) (in_range none y below) (d.longest_hold y below)))
          (largest_above (length codes) named x inside) in
          first_found (length codes) _ x inside
          (λ z l. ne_eqb _ _ (λ e. d.first_code z l (e ∙ its)))
          (eq-eqb _ _ (sym its))

      walk_by_number_lem : 0 < length codes → walk_of p limit words holds codes ≡ walk_by_number p limit words codes
      unfolding walk_by_number
      walk_by_number_lem some =
          ⊎_elim
          (λ (i, stops).
          let inside = stops.in_panel in
          stops.walked
          ∙ sym
          (rw (
            first_found (length codes) (λ x. not_found (at_code x)) i inside
                (λ y l. sym (ends_unfound y _ refl) ∙ stops.before y l)
                (sym (ends_unfound i _ refl) ∙ stops.ended),
            lt-ltb i (length codes) inside,
          )))
          (λ (x, goes).
          goes.walked
          ∙ sym
          (rw (
            first_none (length codes) (λ x. not_found (at_code x)) (λ y l. sym (ends_unfound y _ refl) ∙ goes.none_ends y l),
            le-ltb (length codes) (length codes) (omega arith),
            first_largest x goes.none_ends goes.decides,
          )))
          (walk_cases p limit words codes holds some)

      by_number : bad_holds holds ≡ false → panel_of p limit words holds codes ≡ panel_by_number p limit words codes
      unfolding panel_of panel_by_number
      by_number right =
          ⊎_elim
          (λ none. rw none)
          (λ some. let there = eqb-false (length codes) 0 some in rw (right, walk_by_number_lem (omega arith)))
          (true_or_false (eqb (length codes) 0))

pub panels : Panels
panels =
    record {
      decided = λ words holds codes. decided 65537 2048 words codes holds;
      bad_holds_lem = λ words holds codes. bad_holds_lem 65537 2048 words codes holds;
      not_in_use = λ words holds codes. not_in_use 65537 2048 words codes holds;
      met = λ words holds others codes right right' same. met 65537 2048 words codes holds others same ((holds_right holds).1 right) ((holds_right others).1 right');
      by_number = λ words holds codes right rising. by_number 65537 2048 words codes holds rising ((holds_right holds).1 right);
    }
