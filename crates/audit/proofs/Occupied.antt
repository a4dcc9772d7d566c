-- The places of a part that hold a code, listed by rising place, and what is told of them; a part of one place.
use Prim.Native.Nat.{ℕ, ◌+◌, ◌<◌, ◌≤◌}
use mathlib.Core.Bool.{Bool, true, false, cond, not, ◌&&◌}
use mathlib.Core.List.{List, [], ◌∷◌}
use mathlib.Core.Path.{◌≡◌, refl, sym, ap, ◌∙◌}
use native.Mathlib.Nat.{le_antisymm}
use native.Mathlib.Omega.{arith}
use borrow.Author.Tests.{eq-eqb}
use lib.Dec.{eqb}
use lib.ListN.{length, get_or, set, take, drop, length-set}
use lib.Seq.{length-take-le}
use Rattle.hash.specs.Hash.{hash_of}
use Rattle.hash.proofs.Counting.{hash_lt}
use Rattle.prelude.specs.Answers.{some}
use Rattle.prelude.specs.code.Choice.{chosen}
use Rattle.prelude.proofs.Choosing.{chosen_below, choosing_more, some_chosen}
use Rattle.prelude.proofs.Some.{some_one}
use Rattle.audit.specs.Check.{codes_in}
use Rattle.audit.specs.code.Blocks.{elsewhere, not_own, holds, misplaced_in, PlacesListed, Tested}
use Rattle.hash.specs.declared.Hasher.{Hasher}
use Rattle.audit.specs.declared.blocks.BlockHash.{BlockHash}
use Rattle.audit.specs.declared.blocks.BlockTest.{BlockTest}
use Rattle.audit.proofs.Counting.{occupied_is, codes_from, codes_end, one_at_most}

-- before place t: the places below it that hold a code are listed and counted
pub record ListedBelow (part old list : List ℕ) (count t : ℕ) : Type 0 where
  pub upto : t ≤ length part
  pub long : length list ≡ length old
  pub within : count ≤ t
  pub counted : count + codes_in (drop t part) ≡ codes_in part
  pub places : take count list ≡ chosen (holds part) t

pub listed_none : (part list : List ℕ) → ListedBelow part list list 0 0
unfolding chosen
listed_none part list = record { upto = omega arith; long = refl; within = omega arith; counted = omega arith; places = refl }

-- place t is written in any case, and counted where it holds a code
pub listed_next :
    (part old list : List ℕ) (count t : ℕ) → t < length part → t < length list → ListedBelow part old list count t
    → ListedBelow part old (set list count t) (count + cond (eqb (get_or part t 0) 0) 0 1) (t + 1)
listed_next part old list count t l m before =
    record {
      upto = omega arith;
      long = length-set list count t ∙ before.long;
      within = omega (arith, before.within, one_at_most (eqb (get_or part t 0) 0));
      counted = omega (arith, before.counted, codes_from part t l);
      places =
          choosing_more (holds part) t count (cond (eqb (get_or part t 0) 0) 0 1) list before.places (omega (arith, before.within))
          (occupied_is (eqb (get_or part t 0) 0));
    }

pub listed_all :
    (part old list : List ℕ) (count t : ℕ) → length part ≤ t → length part ≤ length old → ListedBelow part old list count t
    → PlacesListed part (take count list)
listed_all part old list count t ge room all =
    record {
      codes = length-take-le count list (omega (arith, all.within, all.upto, all.long)) ∙ omega (arith, all.counted, codes_end part t ge);
      places = all.places ∙ ap (chosen (holds part)) (le_antisymm all.upto ge);
    }

-- a place that is listed is one of the part
pub listed_below :
    (part list : List ℕ) (i : ℕ) → list ≡ chosen (holds part) (length part) → i < length list → get_or list i 0 < length part
listed_below part list i are l =
    rw are (chosen_below (holds part) (length part) i (rw are at l)).0

-- what is told of the listed places is told of all
pub listed_misplaced :
    (h : Hasher) (b : BlockHash) (part list : List ℕ) → list ≡ chosen (holds part) (length part)
    → some (length list) (λ x. not_own h b (get_or list x 0) (get_or part (get_or list x 0) 0)) ≡ some (length part) (misplaced_in h b part)
unfolding misplaced_in
listed_misplaced h b part list are = rw are (some_chosen (holds part) (λ t. not_own h b t (get_or part t 0)) (length part))

-- a block of one cell, where the place of every code is 0
only_place : (h : Hasher) (b : BlockHash) (a : ℕ) → b.cells ≡ 1 → not_own h b 0 a ≡ elsewhere h b.number a
unfolding not_own elsewhere
only_place h b a e =
    let zero : hash_of h.prime b.multiplier b.cells a ≡ 0
    = omega (arith, hash_lt h.prime b.multiplier b.cells a (omega arith)) in
    rw (eq-eqb (hash_of h.prime b.multiplier b.cells a) 0 zero, and_true) refl
  where
    and_true : (b : Bool) → b && true ≡ b
    and_true true = refl
    and_true false = refl

pub one_tested :
    (h : Hasher) (b : BlockHash) (part : List ℕ) (r : BlockTest) → length part ≡ 1 → b.cells ≡ 1
    → r.misplaced ≡ holds part 0 && elsewhere h b.number (get_or part 0 0) → r.codes ≡ cond (eqb (get_or part 0 0) 0) 0 1
    → Tested h b part r
unfolding codes_in misplaced_in
one_tested h b [] r e w m c = absurd (omega arith)
one_tested h b (a ∷ []) r e w m c =
    record {
      misplaced_is = m ∙ sym (some_one (misplaced_in h b (a ∷ [])) ∙ ap (λ (x : Bool). not (eqb a 0) && x) (only_place h b a w));
      codes = omega (arith, c);
    }
one_tested h b (a ∷ x ∷ part) r e w m c = absurd (omega arith)
