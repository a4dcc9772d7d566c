-- Whether a test holds of some number below n. A loop that only tells that keeps `some i test`, and is branch-free.
use Prim.Native.Nat.{ℕ, zero, suc, ◌+◌, ◌-◌, ◌<◌, ◌≤◌}
use mathlib.Core.Bool.{Bool, true, false, ◌||◌}
use mathlib.Core.Logic.{⊎_elim}
use mathlib.Core.Path.{◌≡◌, refl, sym, ap, ◌∙◌}
use native.Mathlib.Decide.{dec_lt}
use native.Mathlib.Nat.{le_antisymm, add-zero, add-suc, add-sub_of_le}
use native.Mathlib.Numerals.{add-one}
use native.Mathlib.Omega.{arith}
use borrow.Author.Tests.{lt-ltb, le-ltb, ltb-true}
use lib.Dec.{ltb}
use Rattle.prelude.specs.Answers.{first_of, some}
use Rattle.prelude.proofs.First.{Below, first_is, first_next, first_none, first_upto, first_ext, none_refused}
use Rattle.hash.proofs.Indicators.{true_or_false}

pub some_of_none : (test : ℕ → Bool) → some 0 test ≡ false
some_of_none test = le-ltb (first_of 0 test) 0 (omega arith)

pub some_next : (i : ℕ) (test : ℕ → Bool) → some (i + 1) test ≡ some i test || test i
some_next i test =
    rw (first_next i test)
    (elim (dec_lt (first_of i test) i) [
      | yes l ↦ rw (lt-ltb (first_of i test) i l) (lt-ltb (first_of i test) (i + 1) (omega arith))
      | no ge ↦
          rw (le-ltb (first_of i test) i (omega arith))
          (⊎_elim
          (λ t. rw t (lt-ltb i (i + 1) (omega arith)))
          (λ f. rw f (le-ltb (suc i) (i + 1) (omega arith)))
          (true_or_false (test i)))
    ])

pub some_one : (test : ℕ → Bool) → some 1 test ≡ test 0
some_one test = some_next 0 test ∙ ap (λ (b : Bool). b || test 0) (some_of_none test)

-- at the end of a loop
pub some_end : {b : Bool} (n i : ℕ) (test : ℕ → Bool) → i ≤ n → n ≤ i → b ≡ some i test → b ≡ some n test
some_end n i test le ge e = e ∙ ap (λ (x : ℕ). some x test) (le_antisymm le ge)

-- where it holds of none, there is no first one
pub none_first : (n : ℕ) (test : ℕ → Bool) → some n test ≡ false → first_of n test ≡ n
none_first n test e = first_none n test ((none_refused n test).0 e)

-- tests that agree below n
pub some_ext : (n : ℕ) (f g : ℕ → Bool) → ((i : ℕ) → i < n → f i ≡ g i) → some n f ≡ some n g
some_ext n f g same = ap (λ (i : ℕ). ltb i n) (first_ext n f g same)

pub some_suc : (i : ℕ) (test : ℕ → Bool) → some (suc i) test ≡ some i test || test i
some_suc i test = ap (λ (x : ℕ). some x test) (sym (add-one i)) ∙ some_next i test

pub or_false : (b : Bool) → b || false ≡ b
or_false true = refl
or_false false = refl

or_assoc : (a b c : Bool) → a || (b || c) ≡ (a || b) || c
or_assoc true b c = refl
or_assoc false b c = refl

-- the first n numbers, and the m after them
some_add : (n m : ℕ) (test : ℕ → Bool) → some (n + m) test ≡ some n test || some m (λ t. test (n + t))
some_add n zero test = ap (λ (x : ℕ). some x test) (add-zero n) ∙ sym (rw (some_of_none (λ t. test (n + t))) (or_false (some n test)))
some_add n (suc m) test =
    ap (λ (x : ℕ). some x test) (add-suc n m)
    ∙ some_suc (n + m) test
    ∙ ap (λ (b : Bool). b || test (n + m)) (some_add n m test)
    ∙ sym (or_assoc (some n test) (some m (λ t. test (n + t))) (test (n + m)))
    ∙ ap (λ (b : Bool). some n test || b) (sym (some_suc m (λ t. test (n + t))))

-- those below n, and those from n to before m
pub some_upto : (n m : ℕ) (test : ℕ → Bool) → n ≤ m → some n test || some (m - n) (λ t. test (n + t)) ≡ some m test
some_upto n m test l = sym (some_add n (m - n) test) ∙ ap (λ (x : ℕ). some x test) (add-sub_of_le l)

-- of two tests, one or the other
pub some_or : (n : ℕ) (f g : ℕ → Bool) → some n f || some n g ≡ some n (λ t. f t || g t)
some_or zero f g = rw (some_of_none f, some_of_none g, some_of_none (λ t. f t || g t)) refl
some_or (suc n) f g =
    rw (some_suc n f, some_suc n g, some_suc n (λ t. f t || g t), ← some_or n f g)
    (four (some n f) (f n) (some n g) (g n))
  where
    four : (a b c d : Bool) → (a || b) || (c || d) ≡ (a || c) || (b || d)
    four true b c d = refl
    four false true true d = refl
    four false true false d = refl
    four false false c d = refl

pub some_holds : (n : ℕ) (test : ℕ → Bool) → Below test n → some n test ≡ false
some_holds n test = (none_refused n test).1

-- where it holds of none
pub none_below : (n : ℕ) (test : ℕ → Bool) → some n test ≡ false → Below test n
none_below n test = (none_refused n test).0

-- where it holds of some number, and what a number of which it holds tells
pub some_there : (n : ℕ) (test : ℕ → Bool) → some n test ≡ true → (x : ℕ) × (x < n) × (test x ≡ true)
some_there n test e = let l = ltb-true (first_of n test) n e in (first_of n test, l, (first_is n test).holds l)

pub there_some : (n : ℕ) (test : ℕ → Bool) (x : ℕ) → x < n → test x ≡ true → some n test ≡ true
there_some n test x l holds = lt-ltb (first_of n test) n (omega (arith, first_upto n test x l holds))
