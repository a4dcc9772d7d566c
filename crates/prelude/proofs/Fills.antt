-- Places set to one value, from the first on: what has been set when i have.
use Prim.Native.Nat.{ℕ, suc, ◌+◌, ◌<◌, ◌≤◌}
use mathlib.Core.List.{List, ◌++◌, append-nil}
use mathlib.Core.Path.{◌≡◌, refl, ap, ◌∙◌}
use native.Mathlib.Omega.{arith}
use borrow.Author.Fill.{fill_more}
use lib.ListN.{length, get_or, drop, set, replicate, length-set, length-replicate}
use lib.Seq.{drop-cons, drop-length, get_or_at}

pub record Filling (v : ℕ) (old : List ℕ) (i : ℕ) (new : List ℕ) : Type 0 where
  pub upto : i ≤ length old
  pub same : length new ≡ length old
  pub full : new ≡ replicate i v ++ drop i old

pub filling_start : (v : ℕ) (old : List ℕ) → Filling v old 0 old
filling_start v old = record { upto = omega arith; same = refl; full = refl }

module _ {v : ℕ} {old : List ℕ} {i : ℕ} {new : List ℕ} (h : Filling v old i new) where
  pub filling_more : i < length old → Filling v old (i + 1) (set new i v)
  filling_more l =
      record {
        upto = omega arith;
        same = length-set new i v ∙ h.same;
        full = ap (λ (s : List ℕ). set s i v) h.full ∙ fill_more i v old l;
      }

  -- the next place is as it was
  pub filling_next : i < length old → get_or new i 0 ≡ get_or old i 0
  filling_next l =
      ap (λ (s : List ℕ). get_or s i 0) h.full
      ∙ rw (drop-cons old i 0 l) (get_or_at (replicate i v) (get_or old i 0) (drop (suc i) old) 0 i (length-replicate {A = ℕ} i v))

  pub filling_all : length old ≤ i → new ≡ replicate (length old) v
  filling_all end =
      let e : i ≡ length old = omega (arith, h.upto) in
      h.full ∙ rw (e, drop-length old) (append-nil (replicate (length old) v))
