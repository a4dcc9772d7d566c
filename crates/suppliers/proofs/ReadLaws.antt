-- What reading a text answers: a text of a list has no faulty line, and what has none is one; then the places decide. A text that was read leaves its pairs
-- in the first places.
use Prim.Native.Nat.{ℕ, ◌<◌, ◌≤◌}
use native.Mathlib.Decide.{dec_lt}
use native.Mathlib.Omega.{arith}
use mathlib.Core.Bool.{Bool, true, false, not, ◌||◌}
use mathlib.Core.List.{List, [], ◌∷◌, map}
use mathlib.Core.Logic.{◌↔◌, ◌⊎◌, inl, inr}
use mathlib.Core.Path.{◌≡◌, refl, sym, ap, ◌∙◌}
use borrow.Author.Tests.{le-ltb, lt-ltb, not-false}
use lib.ListN.{length, take, length-map}
use lib.Seq.{take_at}
use Rattle.hash.proofs.Indicators.{true_or_false}
use Rattle.prelude.specs.Answers.{Answer, given, refused, some, first_of, over}
use Rattle.prelude.specs.Pairs.{Pair, codes_of, schedules_of}
use Rattle.prelude.proofs.First.{none_refused}
use Rattle.prelude.proofs.Refusals.{never_both}
use Rattle.suppliers.specs.Text.{TextOf, lines_of, pair_of, pairs_of_text}
use Rattle.suppliers.specs.Lists.{faulty_line, read_list_of, ListRead}
use Rattle.suppliers.proofs.TextLaws.{AllRight, text_right, text_pairs}

-- whether some line is faulty
abbrev pub some_faulty : List ℕ → Bool
some_faulty text = some (length (lines_of text)) (faulty_line text)

pub faulty_71 :
    (text : List ℕ) (a b : ℕ) → some_faulty text ≡ true → read_list_of text a b ≡ refused 71 (first_of (length (lines_of text)) (faulty_line text))
unfolding read_list_of
faulty_71 text a b e = rw e

or_true : (b : Bool) → b || true ≡ true
or_true true = refl
or_true false = refl

-- where no line is faulty the places decide
module _ (text : List ℕ) (right : some_faulty text ≡ false) where
  pub all_right : AllRight (lines_of text)
  unfolding faulty_line
  all_right i l = not-false _ ((none_refused (length (lines_of text)) (faulty_line text)).0 right i l)

  pub short_72 : (a b : ℕ) → (a < length (lines_of text)) ⊎ (b < length (lines_of text)) → read_list_of text a b ≡ refused 72 (length (lines_of text))
  unfolding read_list_of
  short_72 a b (inl l) = rw (right, lt-ltb a (length (lines_of text)) l)
  short_72 a b (inr l) = rw (right, lt-ltb b (length (lines_of text)) l, or_true)

  pub enough_read : (a b : ℕ) → length (lines_of text) ≤ a → length (lines_of text) ≤ b → read_list_of text a b ≡ given (length (lines_of text) ∷ [])
  unfolding read_list_of
  enough_read a b l m = rw (right, le-ltb a (length (lines_of text)) l, le-ltb b (length (lines_of text)) m)

  -- either the one or the other
  short_or_enough :
      (a b : ℕ)
      → ((a < length (lines_of text)) ⊎ (b < length (lines_of text))) ⊎ ((length (lines_of text) ≤ a) × (length (lines_of text) ≤ b))
  short_or_enough a b =
      elim (dec_lt a (length (lines_of text))) [
        | yes l ↦ inl (inl l)
        | no m ↦ elim (dec_lt b (length (lines_of text))) [ yes l ↦ inl (inr l) | no k ↦ inr (omega arith, omega arith) ]
      ]

  pub no_71 : (a b line : ℕ) → read_list_of text a b ≡ refused 71 line → ⊥
  no_71 a b line e =
      elim (short_or_enough a b) [
        | inl s ↦ let h = short_72 a b s in let z : ◌≡◌ {A = ℕ} 72 71 = cc in omega arith
        | inr (l, m) ↦ never_both e (enough_read a b l m)
      ]

-- a text of a list
module _ (pairs : List Pair) (text : List ℕ) (t : TextOf pairs text) where
  pub none_faulty : some_faulty text ≡ false
  unfolding faulty_line
  none_faulty = (none_refused (length (lines_of text)) (faulty_line text)).1 (λ i l. ap not (text_right pairs text t i l))

  pub line_count : length (lines_of text) ≡ length pairs
  unfolding pairs_of_text
  line_count = sym (length-map (lines_of text) pair_of) ∙ ap length (text_pairs pairs text t)

  pub too_many :
      (a b : ℕ) → (read_list_of text a b ≡ refused 72 (length pairs)) ↔ ((a < length pairs) ⊎ (b < length pairs))
  too_many a b = rw (← line_count) (
    λ e. elim (short_or_enough text none_faulty a b) [ inl s ↦ s | inr (l, m) ↦ never_both e (enough_read text none_faulty a b l m) ],
    short_72 text none_faulty a b,
  )

  pub reads :
      (codes schedules : List ℕ) (answer : Answer) (codes' schedules' : List ℕ) → length pairs ≤ length codes
      → length pairs ≤ length schedules → ListRead text codes schedules answer codes' schedules'
      → (answer ≡ given (length pairs ∷ [])) × (codes' ≡ over (codes_of pairs) codes) × (schedules' ≡ over (schedules_of pairs) schedules)
  reads codes schedules answer codes' schedules' a b r =
      let g = enough_read text none_faulty (length codes) (length schedules) (omega (arith, line_count)) (omega (arith, line_count)) in (
        r.answers ∙ g ∙ ap (λ (n : ℕ). given (n ∷ [])) line_count,
        r.codes_at_exit ∙ rw (g, text_pairs pairs text t),
        r.schedules_at_exit ∙ rw (g, text_pairs pairs text t),
      )

-- a text that was read
module _ {text codes schedules : List ℕ} {n : ℕ} {codes' schedules' : List ℕ} (r : ListRead text codes schedules (given (n ∷ [])) codes' schedules') where
  pub read_right : some_faulty text ≡ false
  read_right =
      elim (true_or_false (some_faulty text)) [
        | inl y ↦ never_both (faulty_71 text (length codes) (length schedules) y) (sym r.answers)
        | inr f ↦ f
      ]

  read_given : read_list_of text (length codes) (length schedules) ≡ given (length (lines_of text) ∷ [])
  read_given =
      elim (short_or_enough text read_right (length codes) (length schedules)) [
        | inl s ↦ never_both (short_72 text read_right _ _ s) (sym r.answers)
        | inr (l, m) ↦ enough_read text read_right _ _ l m
      ]

  -- there is a place for each pair
  pub read_room : (n ≤ length codes) × (n ≤ length schedules)
  read_room =
      elim (short_or_enough text read_right (length codes) (length schedules)) [
        | inl s ↦ never_both (short_72 text read_right _ _ s) (sym r.answers)
        | inr (l, m) ↦ let e = r.answers ∙ read_given in let same : n ≡ length (lines_of text) = cc in (omega arith, omega arith)
      ]

  pub read_count : n ≡ length (pairs_of_text text)
  unfolding pairs_of_text
  read_count = let e = r.answers ∙ read_given in let same : n ≡ length (lines_of text) = cc in same ∙ sym (length-map (lines_of text) pair_of)

  -- the first places are the pairs of the text
  first_places : (value : Pair → ℕ) (old new : List ℕ) → new ≡ over (map value (pairs_of_text text)) old → take n new ≡ map value (pairs_of_text text)
  first_places value old new e = rw e (take_at (map value (pairs_of_text text)) _ n (length-map (pairs_of_text text) value ∙ sym read_count))

  pub codes_read_lem : take n codes' ≡ codes_of (pairs_of_text text)
  codes_read_lem = first_places (λ (p : Pair). p.code) codes codes' (rw read_given at r.codes_at_exit)

  pub schedules_read_lem : take n schedules' ≡ schedules_of (pairs_of_text text)
  schedules_read_lem = first_places (λ (p : Pair). p.schedule) schedules schedules' (rw read_given at r.schedules_at_exit)
