-- The walk of a panel, over plain lists: after i codes that do not end it, it keeps what decides among them; it goes on at a schedule in use, ends at any
-- other answer, and has its answer after the last code.
use Prim.Native.Nat.{ℕ, ◌+◌, ◌-◌, ◌<◌, ◌≤◌}
use mathlib.Core.Bool.{Bool, true, false, cond, ◌&&◌, true≢false}
use mathlib.Core.List.{List, [], ◌∷◌}
use mathlib.Core.Logic.{◌⊎◌, inl, inr, ⊎_elim}
use mathlib.Core.Path.{◌≡◌, refl, sym, ap, subst, ◌∙◌}
use native.Mathlib.Decide.{dec_lt}
use native.Mathlib.Omega.{arith}
use borrow.Author.Tests.{lt-ltb, le-ltb, ltb-true, ltb-false, eqb-true, eqb-false, eq-eqb, ne_eqb}
use lib.Dec.{eqb, ltb}
use lib.ListN.{length, get_or}
use Rattle.hash.proofs.Indicators.{true_or_false}
use Rattle.prelude.specs.Answers.{Answer, given, absent, unknown, refused, first_of}
use Rattle.prelude.specs.Numbers.{found_value_of}
use Rattle.lookup.specs.Lookup.{lookup_of}
use Rattle.lookup.specs.declared.LookupError.TheVariants.{CodeOutOfRange, TooFewWords, BadSizes, BadBlock}
use Rattle.table.specs.code.Sized.{has_blocks}
use Rattle.prelude.proofs.First.{Below, below_none, below_next, first_is, first_found, first_none}
use Rattle.prelude.proofs.Laws.{or_false}
use Rattle.lookup.proofs.Steps.{no_blocks}
use Rattle.lookup.proofs.Tells.{lookup_stands, schedule_range}
use Rattle.panel.specs.Panel.{hold_of, ends, ended_of, deciding, walk_of}
use Rattle.panel.specs.Fired.{panel_error_of}
use Rattle.panel.specs.code.Decided.{answer_at, replaces}
use Rattle.panel.specs.declared.PanelError.{PanelError}
use Rattle.panel.specs.declared.PanelError.TheVariants.{NoCodes, TooManyCodes, BadHolds, Unknown, Refused, NotInUse}
use Rattle.panel.specs.declared.Decided.{Decided}
use Rattle.panel.proofs.Deciding.{Decides, deciding_is, decides_only, and_true}

-- ---- what takes the place of what

replaces_tells :
    (d next : Decided) → replaces d next ≡ true → (d.hold < next.hold) ⊎ ((d.hold ≡ next.hold) × (next.schedule < d.schedule))
replaces_tells d next e =
    elim (dec_lt d.hold next.hold) [
      | yes l ↦ inl l
      | no ge ↦
          let (same, less) = and_true (eqb d.hold next.hold) (ltb next.schedule d.schedule) (rw (le-ltb d.hold next.hold (omega arith)) at e) in
          inr (eqb-true d.hold next.hold same, ltb-true next.schedule d.schedule less)
    ]

keeps_tells :
    (d next : Decided) → replaces d next ≡ false → (next.hold ≤ d.hold) × (d.hold ≡ next.hold → d.schedule ≤ next.schedule)
keeps_tells d next e =
    let (no_longer, no_less) = or_false (ltb d.hold next.hold) (eqb d.hold next.hold && ltb next.schedule d.schedule) e in
    (ltb-false d.hold next.hold no_longer, λ same. ltb-false next.schedule d.schedule (rw (eq-eqb d.hold next.hold same) at no_less))

-- ---- one more schedule

upto : {P : Type 0} {i : ℕ} (y : ℕ) → y < i + 1 → (y < i → P) → (y ≡ i → P) → P
upto {P} {i} y l before last = elim (dec_lt y i) [ yes below ↦ before below | no ge ↦ last (omega arith) ]

module _ (holds : List ℕ) (schedule : ℕ → ℕ) where
  abbrev hold : ℕ → ℕ
  hold x = hold_of holds (schedule x)

  -- code i decides where each code before it has a shorter hold, or as long a one and a larger number
  one_decides :
      (i : ℕ) → ((y : ℕ) → y < i → (hold y < hold i) ⊎ ((hold y ≡ hold i) × (schedule i < schedule y))) → Decides holds (i + 1) schedule i
  one_decides i behind =
      record {
        in_panel = omega arith;
        longest_hold = λ y l. upto y l (λ below. ⊎_elim (λ less. omega arith) (λ (same, _). omega arith) (behind y below)) (λ e. omega (arith, ap hold e));
        least_number = λ y l same. upto y l (λ below. ⊎_elim (λ less. absurd (omega arith)) (λ (_, less). omega arith) (behind y below)) (λ e. omega (arith, ap schedule e));
        first_code = λ y l same. ⊎_elim (λ less. omega (arith, ap (hold_of holds) same)) (λ (_, less). omega arith) (behind y l);
      }

  -- the code that decides goes on to do so
  still_decides :
      (i x : ℕ) → Decides holds i schedule x → hold i ≤ hold x → (hold x ≡ hold i → schedule x ≤ schedule i) → Decides holds (i + 1) schedule x
  still_decides i x d no_longer no_less =
      record {
        in_panel = omega (arith, d.in_panel);
        longest_hold = λ y l. upto y l (d.longest_hold y) (λ e. omega (arith, ap hold e));
        least_number = λ y l same. upto y l (λ below. d.least_number y below same) (λ e. omega (arith, ap schedule e, no_less (sym same ∙ ap hold e)));
        first_code = d.first_code;
      }

-- ---- the walk

module _ (p limit : ℕ) (words codes : List ℕ) where
  -- what the lookup of the code with index x answers, and its schedule
  abbrev pub answer : ℕ → Answer
  answer x = lookup_of p limit words (get_or codes x 0)

  abbrev pub schedule : ℕ → ℕ
  schedule x = found_value_of (answer x)

  module _ (holds : List ℕ) where
    -- none of the first n codes ends it
    abbrev pub NoneEnds : ℕ → Type 0
    NoneEnds n = Below (λ x. ends holds (answer x)) n

    -- after i codes
    pub record Kept (i : ℕ) (d : Decided) : Type 0 where
      pub none_ends : NoneEnds i
      pub nothing_yet : i ≡ 0 → d.hold ≡ 0
      pub decider : 0 < i → (x : ℕ) × Decides holds i schedule x × (answer x ≡ given (d.schedule ∷ d.cell ∷ [])) × (d.hold ≡ hold_of holds d.schedule)

    module _ (i : ℕ) (d next : Decided) (k : Kept i d) (found : answer i ≡ given (next.schedule ∷ next.cell ∷ []))
        (its_hold : next.hold ≡ hold_of holds next.schedule) (in_use : next.hold ≡ 0 → ⊥) where
      none_ends : NoneEnds (i + 1)
      none_ends = below_next _ i k.none_ends (rw found (ne_eqb _ _ (λ e. in_use (its_hold ∙ e))))

      scheduled : schedule i ≡ next.schedule
      scheduled = ap found_value_of found

      held : hold_of holds (schedule i) ≡ next.hold
      held = ap (hold_of holds) scheduled ∙ sym its_hold

      replaced : replaces d next ≡ true → Decides holds (i + 1) schedule i
      replaced e =
          one_decides holds schedule i
          (λ y l.
          let (x, decides, there, long) = k.decider (omega arith) in
          let named : schedule x ≡ d.schedule = ap found_value_of there in
          let held-before : hold_of holds (schedule x) ≡ d.hold = ap (hold_of holds) named ∙ sym long in
          let no_longer = decides.longest_hold y l in
          elim (dec_lt (hold_of holds (schedule y)) (hold_of holds (schedule i))) [
            | yes less ↦ inl less
            | no ge ↦
                ⊎_elim
                (λ less. absurd (omega (arith, held)))
                (λ (same, less).
                let equal : hold_of holds (schedule y) ≡ hold_of holds (schedule x) = omega (arith, held) in
                inr (omega (arith, held), omega (arith, scheduled, decides.least_number y l equal)))
                (replaces_tells d next e)
          ])

      kept : replaces d next ≡ false → (x : ℕ) × Decides holds (i + 1) schedule x × (answer x ≡ given (d.schedule ∷ d.cell ∷ [])) × (d.hold ≡ hold_of holds d.schedule)
      kept e =
          let (no_longer, no_less) = keeps_tells d next e in
          let before : 0 < i = elim (dec_lt 0 i) [ yes l ↦ l | no none ↦ absurd (in_use (omega (arith, k.nothing_yet (omega arith)))) ] in
          let (x, decides, there, long) = k.decider before in
          let named : schedule x ≡ d.schedule = ap found_value_of there in
          let held-before : hold_of holds (schedule x) ≡ d.hold = ap (hold_of holds) named ∙ sym long in (
            x,
            still_decides holds schedule i x decides (omega (arith, held)) (λ same. omega (arith, scheduled, no_less (omega (arith, held)))),
            there,
            long,
          )

      pub walk_on : {r : Decided} → r ≡ cond (replaces d next) next d → Kept (i + 1) r
      walk_on same =
          subst (λ (r : Decided). Kept (i + 1) r) (sym same)
          (⊎_elim
          (λ e.
          rw e
          (record {
            none_ends = none_ends;
            nothing_yet = λ none. absurd (omega arith);
            decider = λ _. (i, replaced e, found, its_hold);
          }))
          (λ e. rw e (record { none_ends = none_ends; nothing_yet = λ none. absurd (omega arith); decider = λ _. kept e }))
          (true_or_false (replaces d next)))

    -- a code that does not end a panel is found with a schedule from 1 to 999, in use
    pub record InUse (x s i : ℕ) : Type 0 where
      pub found : answer x ≡ given (s ∷ i ∷ [])
      pub range : (1 ≤ s) × (s ≤ 999)
      pub in_use : 1 ≤ hold_of holds s

    found_goes_on : (x s i : ℕ) → answer x ≡ given (s ∷ i ∷ []) → ends holds (given (s ∷ i ∷ [])) ≡ false → InUse x s i
    found_goes_on x s i there e =
        record { found = there; range = schedule_range p limit words (get_or codes x 0) s i there; in_use = omega (arith, eqb-false (hold_of holds s) 0 e) }

    goes_on_as : (x : ℕ) (a : Answer) → answer x ≡ a → ends holds a ≡ false → (s : ℕ) × (i : ℕ) × InUse x s i
    goes_on_as x (given values) there e =
        let stands = lookup_stands p words (get_or codes x 0) limit there in
        (_, _, found_goes_on x _ _ (there ∙ ap given stands.found) (ap (ends holds) (ap given (sym stands.found)) ∙ e))
    goes_on_as x absent there e = absurd (true≢false e)
    goes_on_as x (unknown i) there e = absurd (true≢false e)
    goes_on_as x (refused number value) there e = absurd (true≢false e)

    pub goes_on : (x : ℕ) → ends holds (answer x) ≡ false → (s : ℕ) × (i : ℕ) × InUse x s i
    goes_on x e = goes_on_as x (answer x) refl e

    -- where no code ends it
    walk_past : NoneEnds (length codes) → walk_of p limit words holds codes ≡ answer (deciding holds (length codes) schedule)
    unfolding walk_of
    walk_past none = rw (first_none (length codes) (λ x. ends holds (answer x)) none, le-ltb (length codes) (length codes) (omega arith))

    to_999 : NoneEnds (length codes) → (y : ℕ) → y < length codes → schedule y ≤ 999
    to_999 none y l = let (s, i, u) = goes_on y (none y l) in omega (arith, ap found_value_of u.found, u.range.1)

    pub walk_decided :
        (x : ℕ) → NoneEnds (length codes) → Decides holds (length codes) schedule x
        → walk_of p limit words holds codes ≡ answer x
    walk_decided x none decides =
        walk_past none
        ∙ ap answer (decides_only holds (length codes) schedule (deciding_is holds (length codes) schedule (omega (arith, decides.in_panel)) (to_999 none)) decides)

    -- after the last code
    pub walk_over : (i : ℕ) (d : Decided) → 0 < length codes → i ≡ length codes → Kept i d → walk_of p limit words holds codes ≡ given (d.schedule ∷ d.cell ∷ [])
    walk_over i d some all k =
        let k' = subst (λ (n : ℕ). Kept n d) all k in
        let (x, decides, there, long) = k'.decider some in
        walk_decided x k'.none_ends decides ∙ there

    -- a code that ends it
    pub walk_ends :
        (i : ℕ) (a : Answer) → i < length codes → NoneEnds i → a ≡ answer i → ends holds a ≡ true
        → ended_of a i ≡ walk_of p limit words holds codes
    unfolding walk_of
    walk_ends i a l below its e =
        rw (first_found (length codes) (λ x. ends holds (answer x)) i l below (ap (ends holds) (sym its) ∙ e), lt-ltb i (length codes) l)
        (ap (λ (b : Answer). ended_of b i) its)

    -- without blocks the first code ends it
    pub walk_unread :
        0 < length codes → has_blocks p limit words ≡ false → ended_of (answer 0) 0 ≡ walk_of p limit words holds codes
    walk_unread some e =
        walk_ends 0 (answer 0) some (below_none _) refl
        (⊎_elim (λ none. rw none) (λ (number, bad). rw bad) (no_blocks p limit words (get_or codes 0 0) e))

    -- the walk ends at code i, or no code ends it and code x decides
    pub record Stops (i : ℕ) : Type 0 where
      pub in_panel : i < length codes
      pub before : NoneEnds i
      pub ended : ends holds (answer i) ≡ true
      pub walked : walk_of p limit words holds codes ≡ ended_of (answer i) i

    pub record Goes (x : ℕ) : Type 0 where
      pub none_ends : NoneEnds (length codes)
      pub decides : Decides holds (length codes) schedule x
      pub walked : walk_of p limit words holds codes ≡ answer x

    pub walk_cases : 0 < length codes → ((i : ℕ) × Stops i) ⊎ ((x : ℕ) × Goes x)
    walk_cases some =
        let first = first_is (length codes) (λ x. ends holds (answer x)) in
        elim (dec_lt (first_of (length codes) (λ x. ends holds (answer x))) (length codes)) [
          | yes l ↦
              inl (
                _,
                record {
                  in_panel = l;
                  before = first.below;
                  ended = first.holds l;
                  walked = sym (walk_ends _ _ l first.below refl (first.holds l));
                },
              )
          | no ge ↦
              let none : NoneEnds (length codes) = λ j l. first.below j (omega arith) in
              let decides = deciding_is holds (length codes) schedule some (to_999 none) in
              inr (_, record { none_ends = none; decides = decides; walked = walk_decided _ none decides })
        ]

-- ---- what the answer at a code tells

is_given : Answer → Bool
is_given (given values) = true
is_given absent = false
is_given (unknown i) = false
is_given (refused number value) = false

error_not_given : (e : PanelError) → is_given (panel_error_of e) ≡ false
unfolding is_given
error_not_given NoCodes = refl
error_not_given TooManyCodes = refl
error_not_given BadHolds = refl
error_not_given (Unknown i) = refl
error_not_given (Refused i CodeOutOfRange) = refl
error_not_given (Refused i TooFewWords) = refl
error_not_given (Refused i BadSizes) = refl
error_not_given (Refused i BadBlock) = refl
error_not_given (NotInUse i) = refl

-- an error ends it
pub ended_at : (holds : List ℕ) (a : Answer) (i : ℕ) (e : PanelError) → panel_error_of e ≡ answer_at a i → (ends holds a ≡ true) × (panel_error_of e ≡ ended_of a i)
unfolding is_given
ended_at holds (given values) i e is = absurd (true≢false (sym (ap is_given is) ∙ error_not_given e))
ended_at holds absent i e is = (refl, is)
ended_at holds (unknown j) i e is = (refl, is)
ended_at holds (refused number value) i e is = (refl, is)

-- and what is found is the lookup's
pub given_at : (a : Answer) (i : ℕ) (values : List ℕ) → given values ≡ answer_at a i → a ≡ given values
unfolding is_given
given_at (given values') i values is = sym is
given_at absent i values is = absurd (true≢false (ap is_given is))
given_at (unknown j) i values is = absurd (true≢false (ap is_given is))
given_at (refused number value) i values is = absurd (true≢false (ap is_given is))

pub there :
    (p limit : ℕ) (words : List ℕ) (code i : ℕ) {a : Answer} {values : List ℕ} → a ≡ lookup_of p limit words code → given values ≡ answer_at a i
    → lookup_of p limit words code ≡ given values
there p limit words code i looked is = sym looked ∙ given_at _ i _ is

pub hold_there : (holds : List ℕ) {index s : ℕ} → index ≡ s → get_or holds (index - 1) 0 ≡ hold_of holds s
hold_there holds e = ap (λ (n : ℕ). get_or holds (n - 1) 0) e

-- without blocks the first code ends it
pub unread_at : (p limit : ℕ) (words : List ℕ) (code i : ℕ) → has_blocks p limit words ≡ false
    → answer_at (lookup_of p limit words code) i ≡ ended_of (lookup_of p limit words code) i
unread_at p limit words code i e =
    ⊎_elim (λ none. rw none) (λ (number, bad). rw bad) (no_blocks p limit words code e)
