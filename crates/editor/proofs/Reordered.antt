-- The same pairs in another order: the same total, and the same table.
use Prim.Native.Nat.{ℕ, zero, suc, ◌<◌}
use native.Mathlib.Omega.{arith}
use mathlib.Core.List.Permᴰ
use mathlib.Core.List.{List, [], ◌∷◌, Memᴰ, Permᴰ}
use mathlib.Core.Path.{◌≡◌, refl, sym, ap, ap₂, ◌∙◌}
use lib.ListN.{length, get_or, length-map}
use Rattle.hash.proofs.Orders.{perm_length, perm_mem}
use Rattle.hash.proofs.Permuted.{perm_map, perm_codes}
use Rattle.prelude.specs.Answers.{into_room, filled}
use Rattle.prelude.specs.Pairs.{Pair, codes_of, schedules_of}
use Rattle.table.specs.TwoLevel.{words_needed, table_of}
use Rattle.table.proofs.Order.{PairsIn, needed_order, table_order}
use Rattle.search.specs.code.Searchable.{Searchable}
use Rattle.writer.specs.code.Valid.{ValidBuilt}

pub codes_long : (xs : List Pair) → length (codes_of xs) ≡ length xs
codes_long xs = length-map xs (λ (r : Pair). r.code)

pub schedules_long : (xs : List Pair) → length (schedules_of xs) ≡ length xs
schedules_long xs = length-map xs (λ (r : Pair). r.schedule)

pub same_long : (xs : List Pair) → length (schedules_of xs) ≡ length (codes_of xs)
same_long xs = schedules_long xs ∙ sym (codes_long xs)

-- a pair of a list, by index and by membership
pub pair_at :
    (xs : List Pair) (i : ℕ) → i < length (codes_of xs)
    → Memᴰ (record { code = get_or (codes_of xs) i 0; schedule = get_or (schedules_of xs) i 0 }) xs
pair_at [] i l = absurd (omega arith)
pair_at (x ∷ xs) zero l = Memᴰ.head refl
pair_at (x ∷ xs) (suc i) l = Memᴰ.tail (pair_at xs i (omega arith))

pub at_pair :
    {r : Pair} {xs : List Pair} → Memᴰ r xs
    → (i : ℕ) × (i < length (codes_of xs)) × (get_or (codes_of xs) i 0 ≡ r.code) × (get_or (schedules_of xs) i 0 ≡ r.schedule)
at_pair (Memᴰ.head e) = (0, omega arith, ap (λ (x : Pair). x.code) (sym e), ap (λ (x : Pair). x.schedule) (sym e))
at_pair (Memᴰ.tail m) = let (i, l, code, schedule) = at_pair m in (suc i, omega arith, code, schedule)

perm_in : {xs ys : List Pair} → Permᴰ xs ys → PairsIn (codes_of xs) (schedules_of xs) (codes_of ys) (schedules_of ys)
perm_in {xs} q i l = at_pair (perm_mem q (pair_at xs i l))

module _ {p : ℕ} {xs ys : List Pair} (q : Permᴰ xs ys) (s : Searchable p (codes_of xs)) where
  abbrev perm_code : Permᴰ (codes_of xs) (codes_of ys)
  perm_code = perm_map (λ (r : Pair). r.code) q

  pub searchable_order : Searchable p (codes_of ys)
  searchable_order =
      record { prime = s.prime; valid = perm_codes perm_code s.valid; few = omega (arith, s.few, perm_length perm_code) }

  pub built_order :
      {second second' : List ℕ} {total : ℕ} → ValidBuilt p (codes_of ys) (schedules_of ys) second total second'
      → ValidBuilt p (codes_of xs) (schedules_of xs) second total second'
  built_order {second} b =
      let needed : words_needed p (codes_of ys) ≡ words_needed p (codes_of xs) = sym (needed_order p perm_code) in
      let table : table_of p (codes_of ys) (schedules_of ys) ≡ table_of p (codes_of xs) (schedules_of xs)
      = sym
      (table_order s.prime (codes_of xs) (schedules_of xs) (codes_of ys) (schedules_of ys) s.valid searchable_order.valid (same_long xs)
      (same_long ys) (perm_in q) (perm_in (Permᴰ.symm q))) in
      record {
        totals = b.totals ∙ needed;
        words_at_exit = b.words_at_exit ∙ ap₂ (λ (n : ℕ) (t : List ℕ). filled (into_room 6 n (length second)) t second) needed table;
      }
