-- `first_where`: the first index of which a test holds, if there is one. A loop that looks for it keeps `Below test i`.
use Prim.Native.Nat.{ℕ, ◌<◌}
use mathlib.Core.Bool.{Bool, true, false, cond}
use mathlib.Core.List.{List}
use mathlib.Core.Logic.{⊎_elim}
use mathlib.Core.Path.{◌≡◌, refl, ap, ◌∙◌}
use native.Mathlib.Omega.{arith}
use borrow.Author.Tests.{lt-ltb, le-ltb, ltb-true}
use lib.ListN.{length, get_or}
use Rattle.std.specs.Prelude.{Option, Some, None, position}
use Rattle.std.proofs.lemmas.List.Sums.{position_or_len_is}
use Rattle.prelude.specs.Answers.{Answer, refused, refuse_first, first_of, some, first_where}
use Rattle.hash.proofs.Indicators.{true_or_false}
use Rattle.prelude.proofs.First.{First, Below, first_is, first_found, first_none, none_refused}

pub where_found : (n : ℕ) (test : ℕ → Bool) (i : ℕ) → i < n → Below test i → test i ≡ true → first_where n test ≡ Some i
where_found n test i l below holds = rw (first_found n test i l below holds) (rw (lt-ltb i n l) refl)

pub where_none : (n : ℕ) (test : ℕ → Bool) → Below test n → first_where n test ≡ None
where_none n test below = rw (first_none n test below) (rw (le-ltb n n (omega arith)) refl)

-- what its answer tells
module _ (n : ℕ) (test : ℕ → Bool) where
  pub where_some : {i : ℕ} → first_where n test ≡ Some i → (some n test ≡ true) × (first_of n test ≡ i)
  where_some e =
      ⊎_elim
      (λ t. (t, let e = rw t at e in cc))
      (λ f. absurd (let e = rw f at e in cc))
      (true_or_false (some n test))

  pub where_not : first_where n test ≡ None → some n test ≡ false
  where_not e =
      ⊎_elim
      (λ t. absurd (let e = rw t at e in cc))
      (λ f. f)
      (true_or_false (some n test))

  pub where_first : {i : ℕ} → first_where n test ≡ Some i → (i < n) × First n test i
  where_first e =
      let (t, is) = where_some e in
      (omega (arith, ltb-true (first_of n test) n t), rw is at (first_is n test))

  pub where_passed : first_where n test ≡ None → Below test n
  where_passed e = (none_refused n test).0 (where_not e)

  -- refused with the first, or not
  pub where_refused : {i : ℕ} (number : ℕ) (rest : Answer) → first_where n test ≡ Some i → refuse_first n test number rest ≡ refused number i
  where_refused number rest e = let (t, is) = where_some e in rw (t, is) refl

  pub where_next : (number : ℕ) (rest : Answer) → first_where n test ≡ None → refuse_first n test number rest ≡ rest
  where_next number rest e = rw (where_not e) refl

-- where the test holds of none, there is no first one
pub none_where : (n : ℕ) (test : ℕ → Bool) → some n test ≡ false → first_where n test ≡ None
none_where n test e = rw e refl

-- a search that did not find one
pub where_default : (n : ℕ) (test : ℕ → Bool) {o : Option ℕ} → o ≡ first_where n test → ((i : ℕ) → o ≡ Some i → ⊥) → some n test ≡ false
where_default n test is not =
    ⊎_elim
    (λ t. absurd (not (first_of n test) (is ∙ ap (λ (b : Bool). cond b (Some (first_of n test)) None) t)))
    (λ f. f)
    (true_or_false (some n test))

-- what `position` gives, where the test is of the elements
pub where_position : {X : Type 0} (p : X → Bool) (xs : List X) (d : X) → position p xs ≡ first_where (length xs) (λ i. p (get_or xs i d))
where_position {X} p xs d =
    let r : First (length xs) (λ (i : ℕ). p (get_or xs i d)) _ = first_is (length xs) (λ i. p (get_or xs i d)) in
    rw (position_or_len_is p xs _ d r.within r.below r.holds) refl
