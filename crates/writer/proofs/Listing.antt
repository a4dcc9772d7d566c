-- The blocks that are listed, one after the other: each is one of the n, is pending, and is not listed again.
use Prim.Native.Nat.{ℕ, ◌+◌, ◌<◌, ◌≤◌}
use mathlib.Core.Bool.{Bool, true, false}
use mathlib.Core.List.{List, ◌∷◌}
use mathlib.Core.Path.{◌≡◌, refl, sym, ap, ◌∙◌}
use native.Mathlib.Numerals.{add-one}
use borrow.Author.Tests.{eq-eqb, ne_eqb}
use lib.ListN.{length, get_or, drop, drop_of_length-le}
use lib.Seq.{drop-cons}
use Rattle.prelude.specs.Pairs.{among}
use Rattle.prelude.specs.code.Choice.{chosen}
use Rattle.prelude.proofs.Choosing.{chosen_below, chosen_among, chosen_once}

module _ (f : ℕ → Bool) (n : ℕ) {listed : List ℕ} (are : listed ≡ chosen f n) where
  -- what is pending when the first t are written
  abbrev pub waiting : ℕ → ℕ → Bool
  waiting t j = among j (drop t listed)

  pub waiting_begin : (j : ℕ) → j < n → f j ≡ waiting 0 j
  waiting_begin j l = sym (ap (among j) are ∙ chosen_among f n j l)

  pub waiting_end : (t j : ℕ) → length listed ≤ t → waiting t j ≡ false
  unfolding among
  waiting_end t j end = rw (drop_of_length-le listed {i = t} end) refl

  module _ (t : ℕ) (l : t < length listed) where
    pub next_below : (get_or listed t 0 < n) × (f (get_or listed t 0) ≡ true)
    next_below = rw are (chosen_below f n t (rw are at l))

    rest_is : drop t listed ≡ get_or listed t 0 ∷ drop (t + 1) listed
    rest_is = drop-cons listed t 0 l ∙ ap (λ (i : ℕ). get_or listed t 0 ∷ drop i listed) (sym (add-one t))

    pub next_waits : waiting t (get_or listed t 0) ≡ true
    unfolding among
    next_waits = rw (rest_is, eq-eqb (get_or listed t 0) (get_or listed t 0) refl) refl

    pub next_done : waiting (t + 1) (get_or listed t 0) ≡ false
    next_done = rw (add-one t, are) (chosen_once f n t (rw are at l))

    pub next_other : (i : ℕ) → (i ≡ get_or listed t 0 → ⊥) → waiting (t + 1) i ≡ waiting t i
    unfolding among
    next_other i ne = sym (rw (rest_is, ne_eqb i (get_or listed t 0) ne) refl)
