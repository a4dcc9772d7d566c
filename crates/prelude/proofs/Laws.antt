-- What the proofs of every crate have in common: the facts that decide a definition's tests, and what shows an answer.
use Prim.Native.Nat.{ℕ, ◌-◌, ◌<◌, ◌≤◌}
use mathlib.Core.Bool.{Bool, true, false, ◌||◌, true≢false}
use mathlib.Core.Path.{◌≡◌, refl}
use native.Mathlib.Omega.{arith}
use borrow.Author.Tests.{le-ltb, lt-ltb, le-leb, lt-leb, eq-eqb, ne_eqb, ltb-false}
use Rattle.prelude.specs.Answers.{Answer, outside}
use Rattle.prelude.specs.Numbers.{number_of, value_of, Shown, SizeShown}

-- each test of a definition, from the fact that decides it
pub ruleset tests = (le-ltb, lt-ltb, le-leb, lt-leb, eq-eqb, ne_eqb)

-- where `a or b` does not hold, neither does
pub or_false : (a b : Bool) → a || b ≡ false → (a ≡ false) × (b ≡ false)
or_false true b e = absurd (true≢false e)
or_false false b e = (refl, e)

pub within : (low high x : ℕ) → outside low high x ≡ false → (low ≤ x) × (x ≤ high)
within low high x e = let r = or_false _ _ e in (ltb-false _ _ r.0, ltb-false _ _ r.1)

-- a code or a multiplier from 1 to p - 1
pub below_prime : (p x : ℕ) → outside 1 (p - 1) x ≡ false → x < p
below_prime p x e = let range = within 1 (p - 1) x e in omega arith

-- an answer's own number and value show it
pub shown : (answer : Answer) → Shown answer (record { number = number_of answer; value = value_of answer })
shown answer = record { number_shown = refl; value_shown = refl }

pub size_shown : (answer : Answer) → SizeShown answer (record { number = number_of answer; value = value_of answer })
size_shown answer = record { number_shown = refl; value_shown = refl }
