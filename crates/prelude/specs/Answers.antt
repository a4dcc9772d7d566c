-- The answers of every operation, and the tests that lead to them (document 01, "What the controller has").
-- Refusals are tested in the order written: one stands below the other, and each test is over all pairs, blocks or cells.
use Rattle.std.specs.Prelude.{ℕ, zero, suc, Bool, cond, ◌||◌, List, [], ◌∷◌, ◌++◌, ltb, length, drop, Option, Some, None, Result, Ok, Err}

-- an answer in the paper's numbers
pub data Answer : Type 0 where
  -- a result: its values in the paper's order
  given : List ℕ → Answer
  -- a lookup of a code that the table does not have
  absent : Answer
  -- a panel whose code with this index is absent
  unknown : ℕ → Answer
  -- a refusal: its number, and what comes with it
  refused : ℕ → ℕ → Answer

-- the answer of a call: its value, or its error as an answer
abbrev pub answer_of : {E : Type 0} → (E → Answer) → Result ℕ E → Answer
answer_of error (Ok value) = given (value ∷ [])
answer_of error (Err e) = error e

-- refused by a test that holds, otherwise what follows
abbrev pub refuse : Bool → ℕ → ℕ → Answer → Answer
refuse fails number value rest = cond fails (refused number value) rest

-- the first of 0 to n - 1 of which the test holds; n where there is none
unfoldable pub first_of : ℕ → (ℕ → Bool) → ℕ
first_of zero test = 0
first_of (suc n) test = let first = first_of n test in cond (ltb first n) first (cond (test n) n (suc n))

-- the test holds of some number below n
abbrev pub some : ℕ → (ℕ → Bool) → Bool
some n test = ltb (first_of n test) n

-- the first of them, where there is one
abbrev pub first_where : ℕ → (ℕ → Bool) → Option ℕ
first_where n test = cond (some n test) (Some (first_of n test)) None

-- refused with the first of 0 to n - 1 of which the test holds, otherwise what follows
abbrev pub refuse_first : ℕ → (ℕ → Bool) → ℕ → Answer → Answer
refuse_first n test number rest = refuse (some n test) number (first_of n test) rest

-- the refusals of an earlier answer, otherwise what follows
abbrev pub or_refused : Answer → Answer → Answer
or_refused (given values) rest = rest
or_refused absent rest = absent
or_refused (unknown i) rest = unknown i
or_refused (refused number value) rest = refused number value

-- the answer of a call that fills `needed` of the lent words: refused with the words needed where fewer are lent, otherwise their number
abbrev pub into_room : ℕ → ℕ → ℕ → Answer
into_room number needed lent = refuse (ltb lent needed) number needed (given (needed ∷ []))

-- x is not from low to high
abbrev pub outside : ℕ → ℕ → ℕ → Bool
outside low high x = ltb x low || ltb high x

-- the first words replaced by new ones, those after them kept
abbrev pub over : List ℕ → List ℕ → List ℕ
over new old = new ++ drop (length new) old

-- lent memory after a call: filled where there is a result, and otherwise kept
abbrev pub filled : Answer → List ℕ → List ℕ → List ℕ
filled (given values) new old = over new old
filled absent new old = old
filled (unknown i) new old = old
filled (refused number value) new old = old
