-- What the answer of a lookup tells of any words, checked or not: a code that is found stands in its own cell, one of the c, with a schedule
-- from 1 to 999.
use Prim.Native.Nat.{ℕ, ◌-◌, ◌<◌, ◌≤◌}
use native.Mathlib.Omega.{arith}
use mathlib.Core.Bool.{Bool, true, false, cond}
use mathlib.Core.List.{List, [], ◌∷◌}
use mathlib.Core.Path.{◌≡◌, refl}
use borrow.Author.Tests.{eqb-true, eqb-false, ltb-false}
use lib.Dec.{eqb, ltb, lit≤}
use lib.ListN.{length}
use Rattle.hash.proofs.Counting.{hash_lt}
use Rattle.prelude.specs.Answers.{Answer, given, absent, unknown, refused, refuse, outside}
use Rattle.table.specs.Words.{code_count, cell_count, block_start, block_end, block_multiplier, cell_code, cell_schedule, block_of, cell_in, own_cell}
use Rattle.table.specs.Sizes.{bad_sizes}
use Rattle.lookup.specs.Lookup.{in_cell, in_block, lookup_of}
use Rattle.prelude.proofs.Laws.{within}

module _ (p : ℕ) (words : List ℕ) (a : ℕ) where
  -- what is found
  pub record Stands (values : List ℕ) : Type 0 where
    pub found : values ≡ cell_schedule words (own_cell p words a) ∷ own_cell p words a ∷ []
    pub below : own_cell p words a < cell_count words
    pub code : cell_code words (own_cell p words a) ≡ a
    pub from_one : 1 ≤ cell_schedule words (own_cell p words a)
    pub to_999 : cell_schedule words (own_cell p words a) ≤ 999

  -- and every other answer
  unfoldable pub Tells : Answer → Type 0
  Tells (given values) = Stands values
  Tells absent = Unit {0}
  Tells (unknown i) = ⊥
  Tells (refused number value) = (31 ≤ number) × (number ≤ 34) × (value ≡ 0)

  -- one test before an answer
  test_first : (fails : Bool) (number : ℕ) (rest : Answer) → 31 ≤ number → number ≤ 34 → (fails ≡ false → Tells rest) → Tells (refuse fails number 0 rest)
  unfolding Tells
  test_first true number rest from to r = (from, to, refl)
  test_first false number rest from to r = r refl

  -- absent, or an answer
  or_absent : (b : Bool) (rest : Answer) → (b ≡ false → Tells rest) → Tells (cond b absent rest)
  unfolding Tells
  or_absent true rest r = tt
  or_absent false rest r = r refl

  absent_or : (b : Bool) (rest : Answer) → (b ≡ true → Tells rest) → Tells (cond b rest absent)
  unfolding Tells
  absent_or true rest r = r refl
  absent_or false rest r = tt

  cell_tells : own_cell p words a < cell_count words → Tells (in_cell words a (own_cell p words a))
  unfolding in_cell Tells
  cell_tells below =
      let i = own_cell p words a in
      absent_or (eqb (cell_code words i) a) _
      (λ same.
      test_first (outside 1 999 (cell_schedule words i)) 34 _ (lit≤ tt) (lit≤ tt)
      (λ inside.
      let range = within 1 999 (cell_schedule words i) inside in
      record { found = refl; below = below; code = eqb-true (cell_code words i) a same; from_one = range.0; to_999 = range.1 }))

  block_tells : Tells (in_block p words a (block_of p words a))
  unfolding in_block cell_in own_cell
  block_tells =
      let j = block_of p words a in
      test_first (ltb (block_end words j) (block_start words j)) 34 _ (lit≤ tt) (lit≤ tt)
      (λ rises.
      test_first (ltb (cell_count words) (block_end words j)) 34 _ (lit≤ tt) (lit≤ tt)
      (λ ends.
      or_absent (eqb (block_start words j) (block_end words j)) _
      (λ has.
      let some : block_start words j < block_end words j = omega (arith, ltb-false (block_end words j) (block_start words j) rises, eqb-false (block_start words j) (block_end words j) has) in
      test_first (outside 1 (p - 1) (block_multiplier words j)) 34 _ (lit≤ tt) (lit≤ tt)
      (λ _.
      cell_tells
      (omega (arith, ltb-false (cell_count words) (block_end words j) ends, hash_lt p (block_multiplier words j) (block_end words j - block_start words j) a (omega arith)))))))

  pub lookup_tells : (limit : ℕ) → Tells (lookup_of p limit words a)
  unfolding lookup_of
  lookup_tells limit =
      test_first (outside 1 (p - 1) a) 31 _ (lit≤ tt) (lit≤ tt)
      (λ _.
      test_first (ltb (length words) 3) 32 _ (lit≤ tt) (lit≤ tt)
      (λ _.
      test_first (bad_sizes p limit words) 33 _ (lit≤ tt) (lit≤ tt)
      (λ _. or_absent (eqb (code_count words) 0) _ (λ _. block_tells))))

  pub lookup_stands : (limit : ℕ) {values : List ℕ} → lookup_of p limit words a ≡ given values → Stands values
  unfolding Tells
  lookup_stands limit e = rw e at (lookup_tells limit)

-- the same of the schedule and the cell that are answered
module _ (p limit : ℕ) (words : List ℕ) (a s i : ℕ) (e : lookup_of p limit words a ≡ given (s ∷ i ∷ [])) where
  schedule_is : cell_schedule words (own_cell p words a) ≡ s
  schedule_is = let stands = lookup_stands p words a limit e in cc stands.found

  pub own_cell_lem : i ≡ own_cell p words a
  own_cell_lem = let stands = lookup_stands p words a limit e in cc stands.found

  pub stands_there : (i < cell_count words) × (cell_code words i ≡ a) × (cell_schedule words i ≡ s)
  stands_there = let stands = lookup_stands p words a limit e in rw own_cell_lem (stands.below, stands.code, schedule_is)

  pub schedule_range : (1 ≤ s) × (s ≤ 999)
  schedule_range =
      let stands = lookup_stands p words a limit e in
      (omega (arith, schedule_is, stands.from_one), omega (arith, schedule_is, stands.to_999))
