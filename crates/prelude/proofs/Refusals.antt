-- Refusals one below the other, as a list: the answer is given exactly where every test fails, and is otherwise a refusal.
use Prim.Native.Nat.{ℕ}
use mathlib.Core.Bool.{Bool, true, false}
use mathlib.Core.List.{List, [], ◌∷◌}
use mathlib.Core.Logic.{◌⊎◌, inl, inr, ⊎_elim}
use mathlib.Core.Path.{◌≡◌, refl}
use native.Mathlib.Omega.{arith}
use Rattle.prelude.specs.Answers.{Answer, given, refused, refuse}

-- a test, the number of its refusal, and what comes with it
pub record Refusal : Type 0 where
  pub fails : Bool
  pub number : ℕ
  pub value : ℕ

abbrev pub refusals : List Refusal → List ℕ → Answer
refusals [] values = given values
refusals (r ∷ rest) values = refuse r.fails r.number r.value (refusals rest values)

-- none of them refuses
abbrev pub Passed : List Refusal → Type 0
Passed [] = Unit {0}
Passed (r ∷ rest) = (r.fails ≡ false) × Passed rest

-- the answer is these values, or a refusal
abbrev pub GivenOrRefused : List ℕ → Answer → Type 0
GivenOrRefused values answer = (answer ≡ given values) ⊎ ((number : ℕ) × (value : ℕ) × (answer ≡ refused number value))

pub never_both : {A : Type 0} {number value : ℕ} {values : List ℕ} {answer : Answer} → answer ≡ refused number value → answer ≡ given values → A
never_both r g = let z : ◌≡◌ {A = ℕ} 0 1 = cc in absurd (omega arith)

pub refusals_pass : (tests : List Refusal) (values : List ℕ) → Passed tests → refusals tests values ≡ given values
refusals_pass [] values all = refl
refusals_pass (r ∷ rest) values all = rw all.0 (refusals_pass rest values all.1)

-- an answer that is not the refusal comes after it
pub refuse_not :
    (fails : Bool) (number value : ℕ) (rest : Answer) {r : Answer} → (refused number value ≡ r → ⊥) → refuse fails number value rest ≡ r
    → (fails ≡ false) × (rest ≡ r)
refuse_not true number value rest other e = absurd (other e)
refuse_not false number value rest other e = (refl, e)

pub refusals_given : (tests : List Refusal) (values given-values : List ℕ) → refusals tests values ≡ given given-values → Passed tests
refusals_given [] values vs e = tt
refusals_given (r ∷ rest) values vs e =
    let p = refuse_not r.fails r.number r.value (refusals rest values) (never_both refl) e in
    (p.0, refusals_given rest values vs p.1)

refuse_settled :
    (fails : Bool) (number value : ℕ) (rest : Answer) (values : List ℕ) → GivenOrRefused values rest → GivenOrRefused values (refuse fails number value rest)
refuse_settled true number value rest values s = inr (number, value, refl)
refuse_settled false number value rest values s = s

pub refusals_given_or_refused : (tests : List Refusal) (values : List ℕ) → GivenOrRefused values (refusals tests values)
refusals_given_or_refused [] values = inl refl
refusals_given_or_refused (r ∷ rest) values =
    refuse_settled r.fails r.number r.value (refusals rest values) values (refusals_given_or_refused rest values)

-- what is given are these values
pub is_given : {values vs : List ℕ} {answer : Answer} → GivenOrRefused values answer → answer ≡ given vs → vs ≡ values
is_given s e = ⊎_elim (λ g. cc) (λ r. never_both r.2 e) s
