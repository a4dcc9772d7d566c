-- `first_of` gives the first index of which a test holds, and is the only such number. A loop that looks for it keeps `Below test i`.
use Prim.Native.Nat.{ℕ, zero, suc, ◌+◌, ◌<◌, ◌≤◌}
use mathlib.Core.Bool.{Bool, true, false, cond, true≢false}
use mathlib.Core.Logic.{◌↔◌, ⊎_elim}
use mathlib.Core.Path.{◌≡◌, sym, ◌∙◌}
use native.Mathlib.Decide.{dec_lt}
use native.Mathlib.Nat.{le_antisymm}
use native.Mathlib.Numerals.{add-one}
use native.Mathlib.Omega.{arith}
use borrow.Author.Count.{below_more}
use borrow.Author.Tests.{lt-ltb, le-ltb, ltb-false}
use lib.Dec.{ltb}
use Rattle.prelude.specs.Answers.{first_of}
use Rattle.hash.proofs.Indicators.{true_or_false}

-- the test fails below i
abbrev pub Below : (ℕ → Bool) → ℕ → Type 0
Below test i = (j : ℕ) → j < i → test j ≡ false

-- i is the first of 0 to n - 1 of which the test holds, or n where there is none
pub record First (n : ℕ) (test : ℕ → Bool) (i : ℕ) : Type 0 where
  pub within : i ≤ n
  pub below : Below test i
  pub holds : i < n → test i ≡ true

pub below_none : (test : ℕ → Bool) → Below test 0
below_none test j l = absurd (omega arith)

pub below_next : (test : ℕ → Bool) (i : ℕ) → Below test i → test i ≡ false → Below test (i + 1)
below_next test = below_more (λ (j : ℕ). test j ≡ false)

-- one more index: the first before it stands, or it is the first itself, or there is none
first_more : (n : ℕ) (test : ℕ → Bool) (i : ℕ) → First n test i → First (suc n) test (cond (ltb i n) i (cond (test n) n (suc n)))
first_more n test i r =
    elim (dec_lt i n) [
      | yes l ↦ rw (lt-ltb i n l) (record { within = omega arith; below = r.below; holds = λ _. r.holds l })
      | no ge ↦
          let before : Below test n = λ j l. r.below j (omega arith) in
          rw (le-ltb i n (omega arith))
          (⊎_elim
          (λ t. rw t (record { within = omega arith; below = before; holds = λ _. t }))
          (λ f.
          rw f
          (record {
            within = omega arith;
            below = λ j l. below_next test n before f j (omega arith);
            holds = λ l. absurd (omega arith);
          }))
          (true_or_false (test n)))
    ]

pub first_is : (n : ℕ) (test : ℕ → Bool) → First n test (first_of n test)
unfolding first_of
first_is zero test = record { within = omega arith; below = below_none test; holds = λ l. absurd (omega arith) }
first_is (suc n) test = first_more n test (first_of n test) (first_is n test)

-- how a loop that does not stop at the first goes on
pub first_next :
    (n : ℕ) (test : ℕ → Bool) → first_of (n + 1) test ≡ cond (ltb (first_of n test) n) (first_of n test) (cond (test n) n (suc n))
unfolding first_of
first_next n test = rw (add-one n)

-- of two, neither is below the other
not_below : {n : ℕ} {test : ℕ → Bool} {i j : ℕ} → First n test i → First n test j → i ≤ j
not_below {n} {test} {i} {j} a b =
    elim (dec_lt j i) [
      | yes l ↦ absurd (true≢false (sym (b.holds (omega arith)) ∙ a.below j l))
      | no ge ↦ omega arith
    ]

pub first_only : {n : ℕ} {test : ℕ → Bool} {i : ℕ} → First n test i → first_of n test ≡ i
first_only {n} {test} {i} r = le_antisymm (not_below (first_is n test) r) (not_below r (first_is n test))

pub first_found : (n : ℕ) (test : ℕ → Bool) (i : ℕ) → i < n → Below test i → test i ≡ true → first_of n test ≡ i
first_found n test i l below holds = first_only (record { within = omega arith; below = below; holds = λ _. holds })

-- a loop that has come to the end has found none
pub first_end : (n : ℕ) (test : ℕ → Bool) (i : ℕ) → i ≤ n → n ≤ i → Below test i → first_of n test ≡ i
first_end n test i le ge below = first_only (record { within = le; below = below; holds = λ l. absurd (omega arith) })

pub first_none : (n : ℕ) (test : ℕ → Bool) → Below test n → first_of n test ≡ n
first_none n test below = first_end n test n (omega arith) (omega arith) below

-- where it holds of a number, the first is that one or before it
pub first_upto : (n : ℕ) (test : ℕ → Bool) (i : ℕ) → i < n → test i ≡ true → first_of n test ≤ i
first_upto n test i l holds =
    elim (dec_lt i (first_of n test)) [
      | yes before ↦ absurd (true≢false (sym holds ∙ (first_is n test).below i before))
      | no ge ↦ omega arith
    ]

-- `refuse_first` refuses nothing exactly where the test fails below n
pub none_refused : (n : ℕ) (test : ℕ → Bool) → (ltb (first_of n test) n ≡ false) ↔ Below test n
none_refused n test =
    (λ e j l. (first_is n test).below j (omega (arith, ltb-false (first_of n test) n e)), λ below. rw (first_none n test below) (le-ltb n n (omega arith)))

-- tests that agree up to the first of one have the same first
pub first_agree : (n : ℕ) (f g : ℕ → Bool) → ((i : ℕ) → i < n → i ≤ first_of n g → f i ≡ g i) → first_of n f ≡ first_of n g
first_agree n f g same =
    let r : First n g (first_of n g) = first_is n g in
    first_only
    (record {
      within = r.within;
      below = λ j l. same j (omega (arith, r.within)) (omega arith) ∙ r.below j l;
      holds = λ l. same (first_of n g) l (omega arith) ∙ r.holds l;
    })

-- and those that agree below n
pub first_ext : (n : ℕ) (f g : ℕ → Bool) → ((i : ℕ) → i < n → f i ≡ g i) → first_of n f ≡ first_of n g
first_ext n f g same = first_agree n f g (λ i l _. same i l)
