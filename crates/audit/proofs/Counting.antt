-- How many codes a run of cells holds: at most its cells, and those of a run and of the next add up.
use Prim.Native.Nat.{ℕ, ◌+◌, ◌<◌, ◌≤◌}
use mathlib.Core.Bool.{Bool, true, false, cond, not}
use mathlib.Core.List.{List, [], ◌∷◌, ◌++◌}
use mathlib.Core.Path.{◌≡◌, refl, ap, ◌∙◌}
use native.Mathlib.Numerals.{add-one}
use native.Mathlib.Omega.{arith}
use lib.Dec.{eqb}
use mir.Val.{bool_byte}
use lib.ListN.{length, get_or, take, drop, drop_of_length-le}
use lib.Seq.{drop-cons, take-add}
use Rattle.audit.specs.Check.{codes_in}

pub one_at_most : (b : Bool) → cond b 0 1 ≤ 1
one_at_most true = omega arith
one_at_most false = omega arith

-- a cell that holds a code counts 1
pub occupied_is : (b : Bool) → ◌≡◌ {A = ℕ} (cond b 0 1) (cond (not b) 1 0)
occupied_is true = refl
occupied_is false = refl

-- a test as a number
pub byte_is : (b : Bool) → bool_byte b ≡ cond b 1 0
byte_is true = refl
byte_is false = refl

pub byte_le : (b : Bool) → bool_byte b ≤ 1
byte_le true = omega arith
byte_le false = omega arith

pub byte_not : (b : Bool) → bool_byte (not b) ≡ cond b 0 1
byte_not true = refl
byte_not false = refl

pub codes_le : (cells : List ℕ) → codes_in cells ≤ length cells
unfolding codes_in
codes_le [] = omega arith
codes_le (a ∷ cells) = omega (arith, codes_le cells, one_at_most (eqb a 0))

pub codes_append : (xs ys : List ℕ) → codes_in (xs ++ ys) ≡ codes_in xs + codes_in ys
unfolding codes_in
codes_append [] ys = omega arith
codes_append (a ∷ xs) ys = omega (arith, codes_append xs ys)

-- the cell at i, and those after it
pub codes_from :
    (cells : List ℕ) (i : ℕ) → i < length cells → codes_in (drop i cells) ≡ cond (eqb (get_or cells i 0) 0) 0 1 + codes_in (drop (i + 1) cells)
unfolding codes_in
codes_from cells i l = rw (add-one i, drop-cons cells i 0)

pub codes_end : (cells : List ℕ) (i : ℕ) → length cells ≤ i → codes_in (drop i cells) ≡ 0
unfolding codes_in
codes_end cells i l = rw (drop_of_length-le cells {i = i} l)

-- the first n cells, and the m after them
pub codes_take : (n m : ℕ) (cells : List ℕ) → codes_in (take (n + m) cells) ≡ codes_in (take n cells) + codes_in (take m (drop n cells))
codes_take n m cells = ap codes_in (take-add n m cells) ∙ codes_append (take n cells) (take m (drop n cells))
