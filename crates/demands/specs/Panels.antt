-- What the theorems say of panels: holds that are right, what decides a panel, the schedules that it meets, and the panel before there were holds.
use Rattle.std.specs.Prelude.{ℕ, ◌<◌, ◌≤◌, Bool, true, false, cond, List, [], ◌∷◌, ◌≡◌, eqb, ltb, length, get_or}
use Rattle.prelude.specs.Answers.{Answer, given, absent, unknown, refused, refuse, first_of}
use Rattle.prelude.specs.Numbers.{found_value_of}
use Rattle.lookup.specs.Lookup.{lookup_of}
use Rattle.panel.specs.Panel.{hold_of, ended_of, largest_of}
use Rattle.demands.specs.Lists.{FoundWith}

-- the holds of 999 schedules, none above 10,080 minutes
pub record RightHolds (holds : List ℕ) : Type 0 where
  pub number : length holds ≡ 999
  pub at_most : (s : ℕ) → 1 ≤ s → s ≤ 999 → hold_of holds s ≤ 10080

-- holds as schedules were numbered before: all in use, and rising with the number
pub record Rising (holds : List ℕ) : Type 0 where
  pub in_use : (s : ℕ) → 1 ≤ s → s ≤ 999 → 1 ≤ hold_of holds s
  pub rise : (s t : ℕ) → 1 ≤ s → s < t → t ≤ 999 → hold_of holds s < hold_of holds t

module _ (p limit : ℕ) (words holds codes : List ℕ) where
  -- what decides a panel: a code found with s in cell i
  pub record DecidedBy (s i : ℕ) : Type 0 where
    pub index : ℕ
    pub in_panel : index < length codes
    pub found : lookup_of p limit words (get_or codes index 0) ≡ given (s ∷ i ∷ [])
    pub in_use : 1 ≤ hold_of holds s
    -- each code is found with a schedule in use: its hold is no longer, if it is as long its number is no smaller, and before that code it is another
    pub others :
        (x : ℕ) → x < length codes
        → (t : ℕ) × FoundWith p limit words (get_or codes x 0) t × (1 ≤ hold_of holds t)
        × (hold_of holds t ≤ hold_of holds s) × (hold_of holds t ≡ hold_of holds s → s ≤ t) × (x < index → t ≡ s → ⊥)

  -- the panel meets s at index i: that code is found with s, and each before it with a schedule in use
  pub record Met (i s : ℕ) : Type 0 where
    pub in_panel : i < length codes
    pub found : FoundWith p limit words (get_or codes i 0) s
    pub before : (x : ℕ) → x < i → (t : ℕ) × FoundWith p limit words (get_or codes x 0) t × (1 ≤ hold_of holds t)

-- a lookup's answer gives no schedule
abbrev pub not_found : Answer → Bool
not_found (given values) = false
not_found absent = true
not_found (unknown i) = true
not_found (refused number value) = true

-- the panel of document 01, where schedules are numbered by rising hold (document 02, Change 4): the first code that is absent or refused ends it,
-- otherwise the largest schedule, and the cell of the first code that has it
unfoldable pub walk_by_number : ℕ → ℕ → List ℕ → List ℕ → Answer
walk_by_number p limit words codes =
    let n = length codes in
    let answer : ℕ → Answer = λ x. lookup_of p limit words (get_or codes x 0) in
    let schedule : ℕ → ℕ = λ x. found_value_of (answer x) in
    let ended = first_of n (λ x. not_found (answer x)) in
    cond (ltb ended n) (ended_of (answer ended) ended) (answer (first_of n (λ x. eqb (schedule x) (largest_of n schedule))))

unfoldable pub panel_by_number : ℕ → ℕ → List ℕ → List ℕ → Answer
panel_by_number p limit words codes =
    refuse (eqb (length codes) 0) 35 0
    (refuse (ltb 64 (length codes)) 36 0
    (walk_by_number p limit words codes))
