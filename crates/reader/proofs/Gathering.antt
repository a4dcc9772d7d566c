-- Gathering the pairs of some cells into two lists that have a place for each. A cell's pair is stored in the next place in any case; where
-- the cell does not count, the next store is over it.
use Prim.Native.Nat.{ℕ, suc, ◌+◌, ◌<◌, ◌≤◌}
use native.Mathlib.Decide.{ℕ_discrete, dec_lt}
use native.Mathlib.Numerals.{add-one}
use native.Mathlib.Omega.{arith}
use mathlib.Core.Bool.{Bool, true, false, cond, not}
use mathlib.Core.List.{List, [], ◌∷◌, ◌++◌, map, append_assoc, append-nil}
use mathlib.Core.Logic.{⊎_elim}
use mathlib.Core.Path.{◌≡◌, refl, sym, ap, ap₂, ◌∙◌}
use borrow.Author.Tests.{eq-eqb, ne_eqb}
use lib.ListN.{length, get_or, set, take, drop, length-set, drop_of_length-le}
use lib.Seq.{take_all, take-suc-set, take-set-le, drop-cons}
use mir.Val.{bool_byte}
use Rattle.audit.specs.Check.{codes_in}
use Rattle.audit.proofs.Counting.{byte_is}
use lib.Dec.{eqb}
use Rattle.hash.proofs.Indicators.{true_or_false}
use Rattle.prelude.specs.Pairs.{Pair, codes_of, schedules_of, paired, pairs_where}
use Rattle.reader.specs.Pairs.{stored}
use Rattle.reader.proofs.Stored.{stored_length}
use Rattle.reader.specs.code.Gathering.{is_other, other_count, others, Gatherable, Gathered}

-- ---- one list, of a number g of each pair: k of them stand in it, and these pairs are left

pub record Filling (g : Pair → ℕ) (all left : List Pair) (k : ℕ) (list : List ℕ) : Type 0 where
  pub whole : length list ≡ length all
  pub size : k + length left ≡ length list
  pub so_far : take k list ++ map g left ≡ map g all

module _ {g : Pair → ℕ} {all : List Pair} {k : ℕ} {list : List ℕ} where
  -- the next pair, which a test counts or does not
  pub filling_next :
      (b : Bool) (r : Pair) (left : List Pair) → Filling g all (cond b (r ∷ left) left) k list → k < length list
      → Filling g all left (k + cond b 1 0) (set list k (g r))
  filling_next true r left f l =
      record {
        whole = length-set list k (g r) ∙ f.whole;
        size = omega (arith, f.size, length-set list k (g r));
        so_far =
            rw (add-one k, take-suc-set list k (g r) l, append_assoc (take k list) (g r ∷ []) (map g left)) f.so_far;
      }
  filling_next false r left f l =
      let e : k + 0 ≡ k = omega arith in
      record {
        whole = length-set list k (g r) ∙ f.whole;
        size = omega (arith, f.size, length-set list k (g r));
        so_far = rw (e, take-set-le k list k (g r) (omega arith)) f.so_far;
      }

  pub filling_end : (left : List Pair) → Filling g all left k list → length list ≤ k → list ≡ map g all
  filling_end [] f l = sym (append-nil list) ∙ ap (λ (s : List ℕ). s ++ []) (sym (take_all k list l)) ∙ f.so_far
  filling_end (r ∷ left) f l = absurd (omega (arith, f.size))

-- ---- the cells

one_at_most : (b : Bool) → cond b 1 0 ≤ 1
one_at_most true = omega arith
one_at_most false = omega arith

module _ (code : ℕ) where
  -- whether a cell counts, as a number
  pub counts : (a : ℕ) {r : ℕ} {b : Bool} → r ≡ bool_byte b → b ≡ is_other code a → r ≡ cond (is_other code a) 1 0
  counts a {b = b} e is = e ∙ byte_is b ∙ ap (λ (x : Bool). cond x 1 0) is

  -- a cell and those after it
  others_cons :
      (a s : ℕ) (cells held : List ℕ)
      → others code (a ∷ cells) (s ∷ held)
      ≡ cond (is_other code a) (record { code = a; schedule = s } ∷ others code cells held) (others code cells held)
  unfolding others stored paired pairs_where
  others_cons a s cells held = elim (ℕ_discrete a 0) [ yes e ↦ rw (eq-eqb a 0 e) | no ne ↦ rw (ne_eqb a 0 ne) ]

  -- ---- how many

  pub count_le : (cells : List ℕ) → other_count code cells ≤ length cells
  unfolding other_count
  count_le [] = omega arith
  count_le (a ∷ cells) = omega (arith, count_le cells, one_at_most (is_other code a))

  pub count_from :
      (cells : List ℕ) (i : ℕ) → i < length cells
      → other_count code (drop i cells) ≡ cond (is_other code (get_or cells i 0)) 1 0 + other_count code (drop (i + 1) cells)
  unfolding other_count
  count_from cells i l = rw (add-one i, drop-cons cells i 0 l) refl

  pub count_end : (cells : List ℕ) (i : ℕ) → length cells ≤ i → other_count code (drop i cells) ≡ 0
  unfolding other_count
  count_end cells i l = rw (drop_of_length-le cells {i = i} l) refl

  pub others_count : (cells held : List ℕ) → length held ≡ length cells → length (others code cells held) ≡ other_count code cells
  unfolding other_count others stored paired pairs_where
  others_count [] [] e = refl
  others_count [] (s ∷ held) e = absurd (omega arith)
  others_count (a ∷ cells) [] e = absurd (omega arith)
  others_count (a ∷ cells) (s ∷ held) e =
      ap length (others_cons a s cells held) ∙ chosen (is_other code a) ∙ ap (λ (x : ℕ). cond (is_other code a) 1 0 + x) (others_count cells held (omega arith))
    where
      chosen :
          (b : Bool)
          → length (cond b (record { code = a; schedule = s } ∷ others code cells held) (others code cells held))
          ≡ cond b 1 0 + length (others code cells held)
      chosen true = omega arith
      chosen false = omega arith

  -- the cells from i on
  others_from :
      (cells held : List ℕ) (i : ℕ) → length held ≡ length cells → i < length cells
      → others code (drop i cells) (drop i held)
      ≡ cond (is_other code (get_or cells i 0))
      (record { code = get_or cells i 0; schedule = get_or held i 0 } ∷ others code (drop (suc i) cells) (drop (suc i) held))
      (others code (drop (suc i) cells) (drop (suc i) held))
  others_from cells held i same l =
      rw (drop-cons cells i 0 l, drop-cons held i 0 (omega (arith, same)))
      (others_cons (get_or cells i 0) (get_or held i 0) (drop (suc i) cells) (drop (suc i) held))

  -- ---- the pairs

  pub record Gathering (cells held codes schedules : List ℕ) (i k : ℕ) : Type 0 where
    pub within : i ≤ length cells
    pub same : length held ≡ length cells
    pub codes_filled : Filling (λ r. r.code) (others code cells held) (others code (drop i cells) (drop i held)) k codes
    pub schedules_filled : Filling (λ r. r.schedule) (others code cells held) (others code (drop i cells) (drop i held)) k schedules

  pub gathering_start : {cells held codes schedules : List ℕ} → Gatherable code cells held codes schedules → Gathering cells held codes schedules 0 0
  gathering_start h =
      record {
        within = omega arith;
        same = h.same;
        codes_filled = record { whole = h.codes_long; size = omega (arith, h.codes_long); so_far = refl };
        schedules_filled = record { whole = h.schedules_long; size = omega (arith, h.schedules_long); so_far = refl };
      }

  module _ {cells held codes schedules : List ℕ} {i k : ℕ} (g : Gathering cells held codes schedules i k) where
    pub gathering_sizes : length schedules ≡ length codes
    gathering_sizes = omega (arith, g.codes_filled.size, g.schedules_filled.size)

    -- while places are left, so are cells
    pub gathering_more : k < length codes → i < length cells
    unfolding others stored paired pairs_where
    gathering_more l =
        elim (dec_lt i (length cells)) [
          | yes m ↦ m
          | no ge ↦ absurd (omega (arith, rw (drop_of_length-le cells {i = i} (omega arith)) at g.codes_filled.size))
        ]

    pub gathering_next :
        (l : k < length codes)
        → Gathering cells held (set codes k (get_or cells i 0)) (set schedules k (get_or held i 0)) (i + 1) (k + cond (is_other code (get_or cells i 0)) 1 0)
    gathering_next l =
        let m = gathering_more l in
        let step = others_from cells held i g.same m in
        record {
          within = omega arith;
          same = g.same;
          codes_filled = rw (add-one i) (filling_next (is_other code (get_or cells i 0)) _ _ (rw step at g.codes_filled) l);
          schedules_filled =
              rw (add-one i)
              (filling_next (is_other code (get_or cells i 0)) _ _ (rw step at g.schedules_filled) (omega (arith, gathering_sizes)));
        }

    pub gathering_end : length codes ≤ k → Gathered (others code cells held) codes schedules
    gathering_end l =
        record {
          codes_are = filling_end _ g.codes_filled l;
          schedules_are = filling_end _ g.schedules_filled (omega (arith, gathering_sizes));
        }

-- ---- all pairs: no code is 0

pub others_all : (cells held : List ℕ) → others 0 cells held ≡ stored cells held
unfolding others stored pairs_where
others_all cells held = twice (λ a. not (eqb a 0)) (paired cells held)
  where
    twice : (f : ℕ → Bool) (xs : List Pair) → pairs_where f (pairs_where f xs) ≡ pairs_where f xs
    twice f [] = refl
    twice f (r ∷ xs) =
        ⊎_elim
        (λ t. rw t (rw t (ap (λ (l : List Pair). r ∷ l) (twice f xs))))
        (λ e. rw e (twice f xs))
        (true_or_false (f r.code))

pub paired_back : (xs : List Pair) → paired (codes_of xs) (schedules_of xs) ≡ xs
unfolding paired
paired_back [] = refl
paired_back (r ∷ xs) = ap (λ (l : List Pair). r ∷ l) (paired_back xs)

pub all_gatherable :
    {cells held codes schedules : List ℕ} → length held ≡ length cells → length codes ≡ codes_in cells → length schedules ≡ codes_in cells
    → Gatherable 0 cells held codes schedules
all_gatherable {cells} {held} same c s =
    let size : length (others 0 cells held) ≡ codes_in cells = ap length (others_all cells held) ∙ stored_length cells held (sym same) in
    record { same = same; codes_long = c ∙ sym size; schedules_long = s ∙ sym size }

pub all_gathered :
    (cells held : List ℕ) {codes schedules : List ℕ} → Gathered (others 0 cells held) codes schedules → paired codes schedules ≡ stored cells held
all_gathered cells held g =
    ap₂ paired g.codes_are g.schedules_are ∙ paired_back (others 0 cells held) ∙ others_all cells held
