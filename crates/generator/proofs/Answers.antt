-- The answer of generating a load, and what is left in lent memory, by whether the load is too long.
use Prim.Native.Nat.{ℕ, ◌<◌, ◌≤◌}
use mathlib.Core.Bool.{or-true}
use mathlib.Core.List.{List, [], ◌∷◌}
use mathlib.Core.Logic.{◌⊎◌, inl, inr}
use mathlib.Core.Path.{◌≡◌, refl, sym}
use lib.Dec.{ltb}
use lib.ListN.{length}
use borrow.Author.Tests.{lt-ltb, le-ltb}
use Rattle.prelude.specs.Answers.{given, refused}
use Rattle.generator.specs.TestLoad.{generate_of, LoadGenerated}
use Rattle.generator.specs.code.Places.{LoadFits, LoadFilled}

module _ {limit n : ℕ} where
  pub long_73 : (codes schedules : ℕ) → (limit < n) ⊎ ((codes < n) ⊎ (schedules < n)) → generate_of limit n codes schedules ≡ refused 73 0
  unfolding generate_of
  long_73 codes schedules (inl l) = rw (lt-ltb limit n l) refl
  long_73 codes schedules (inr (inl c)) = rw (lt-ltb codes n c, or-true (ltb limit n)) refl
  long_73 codes schedules (inr (inr s)) = rw (lt-ltb schedules n s, or-true (ltb codes n), or-true (ltb limit n)) refl

  pub fitting_load : (codes schedules : ℕ) → n ≤ limit → n ≤ codes → n ≤ schedules → generate_of limit n codes schedules ≡ given (n ∷ [])
  unfolding generate_of
  fitting_load codes schedules l c s = rw (le-ltb limit n l, le-ltb codes n c, le-ltb schedules n s) refl

  module _ {codes schedules : List ℕ} where
    pub generated_none :
        (limit < n) ⊎ ((length codes < n) ⊎ (length schedules < n)) → LoadGenerated limit n codes schedules (refused 73 0) codes schedules
    generated_none long =
        let e = long_73 (length codes) (length schedules) long in
        record { answers = sym e; codes_at_exit = rw e refl; schedules_at_exit = rw e refl }

    pub generated_all :
        {codes' schedules' : List ℕ} → n ≤ limit → LoadFits n codes schedules → LoadFilled n codes schedules codes' schedules'
        → LoadGenerated limit n codes schedules (given (n ∷ [])) codes' schedules'
    generated_all l fits f =
        let e = fitting_load (length codes) (length schedules) l fits.codes_room fits.schedules_room in
        record { answers = sym e; codes_at_exit = rw e f.codes_at_exit; schedules_at_exit = rw e f.schedules_at_exit }
