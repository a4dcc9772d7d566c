-- The values listed with the codes of one block put in its cells, from the last to the first: when i are left the cells hold those from i on. The codes
-- are placed by their hashes, which are noted, and their schedules by what was noted.
use Prim.Native.Nat.{ℕ, suc, ◌-◌, ◌<◌, ◌≤◌}
use mathlib.Core.Bool.{cond}
use mathlib.Core.List.{List, [], ◌∷◌}
use mathlib.Core.Path.{◌≡◌, refl, sym, ap, ap₂, ◌∙◌}
use native.Mathlib.Decide.{ℕ_discrete}
use native.Mathlib.Omega.{arith}
use lib.Dec.{eqb}
use lib.ListN.{length, get_or, drop, set, replicate, length-set}
use lib.Seq.{drop-length, get_or-set_same, get_or-set_other}
use Rattle.hash.specs.Hash.{hash_of}
use Rattle.prelude.specs.Pairs.{paired, value_where}
use Rattle.prelude.specs.Tabulate.{tabulate}
use Rattle.table.specs.TwoLevel.{held_at}
use Rattle.prelude.proofs.Tabulate.{tabulate_length, tabulate_ext}
use Rattle.table.proofs.Held.{held_start, held_put}
use Rattle.search.specs.code.Cells.{square, filled_by}
use Rattle.jumps.proofs.Ends.{drop_before}
use Rattle.placing.specs.code.Block.{PlacesOf, scattered}

pub filled_length : (p q : ℕ) (block values : List ℕ) → length (filled_by p q block values) ≡ square block
filled_length p q block values = tabulate_length (held_at (hash_of p q (square block)) block values) (square block)

pub record Placed (f : ℕ → ℕ) (w : ℕ) (codes values : List ℕ) (i : ℕ) (cells : List ℕ) : Type 0 where
  pub left : i ≤ length codes
  pub held : cells ≡ tabulate (held_at f (drop i codes) (drop i values)) w

pub placed_start : (f : ℕ → ℕ) {w : ℕ} (codes values : List ℕ) {cells : List ℕ} → cells ≡ replicate w 0 → Placed f w codes values (length codes) cells
placed_start f {w} codes values zeros = record { left = omega arith; held = rw (drop-length codes) (zeros ∙ sym (held_start f w _)) }

module _ {f : ℕ → ℕ} {w : ℕ} {codes values : List ℕ} {i : ℕ} {cells : List ℕ} (h : Placed f w codes values i cells) where
  pub placed_more :
      length values ≡ length codes → 0 < i → (t : ℕ) → t ≡ f (get_or codes (i - 1) 0) → t < w
      → Placed f w codes values (i - 1) (set cells t (get_or values (i - 1) 0))
  placed_more parallel pos t own l =
      let a : ℕ = get_or codes (i - 1) 0 in
      let v : ℕ = get_or values (i - 1) 0 in
      record {
        left = omega (arith, h.left);
        held =
            rw (drop_before codes i pos h.left, drop_before values i pos (omega (arith, h.left)))
            (ap (λ (s : List ℕ). set s t v) h.held ∙ held_put f w a v (drop i codes) (drop i values) t own l);
      }

  pub placed_all : i ≤ 0 → cells ≡ tabulate (held_at f codes values) w
  placed_all end = let none : i ≡ 0 = omega arith in rw none at h.held

-- values by the places of the codes that they are listed with
held_places :
    (f : ℕ → ℕ) (codes places values : List ℕ) (t : ℕ) → length places ≡ length codes
    → ((i : ℕ) → i < length codes → get_or places i 0 ≡ f (get_or codes i 0)) → held_at (λ x. x) places values t ≡ held_at f codes values t
unfolding held_at paired value_where
held_places f [] [] values t same each = refl
held_places f [] (x ∷ places) values t same each = absurd (omega arith)
held_places f (a ∷ codes) [] values t same each = absurd (omega arith)
held_places f (a ∷ codes) (x ∷ places) [] t same each = refl
held_places f (a ∷ codes) (x ∷ places) (v ∷ values) t same each =
    ap₂ (λ (o r : ℕ). cond (eqb o t) v r) (each 0 (omega arith))
    (held_places f codes places values t (omega arith) (λ i l. each (suc i) (omega arith)))

pub scattered_filled : {p q : ℕ} {block places : List ℕ} (values : List ℕ) → PlacesOf p q block places → scattered places values (square block) ≡ filled_by p q block values
scattered_filled {p} {q} {block} {places} values h =
    tabulate_ext _ _ (square block) (λ t l. held_places (hash_of p q (square block)) block places values t h.each h.places_are)

-- the numbers g i, g (i + 1), .. stand in a list, and one more before them
abbrev pub NotedFrom : (ℕ → ℕ) → ℕ → List ℕ → Type 0
NotedFrom g i s = (j : ℕ) → i ≤ j → j < length s → get_or s j 0 ≡ g j

pub noted_more : (g : ℕ → ℕ) {i : ℕ} (s : List ℕ) → NotedFrom g i s → (t : ℕ) → t ≡ g (i - 1) → NotedFrom g (i - 1) (set s (i - 1) t)
noted_more g {i} s h t own j l m =
    let inside : j < length s = omega (arith, length-set s (i - 1) t) in
    elim (ℕ_discrete j (i - 1)) [
      | yes e ↦ rw e (get_or-set_same s (i - 1) t 0 (omega arith) ∙ own)
      | no ne ↦ get_or-set_other s (i - 1) j t 0 ne ∙ h j (omega arith) inside
    ]

-- a block of two
pub two_placed :
    (p q a b v u : ℕ) (x y : ℕ) → x ≡ hash_of p q 4 a → x < 4 → y ≡ hash_of p q 4 b → y < 4
    → set (set (replicate 4 0) y u) x v ≡ filled_by p q (a ∷ b ∷ []) (v ∷ u ∷ [])
two_placed p q a b v u x y own-a l own-b m =
    ap (λ (s : List ℕ). set (set s y u) x v) (sym (held_start (hash_of p q 4) 4 []))
    ∙ ap (λ (s : List ℕ). set s x v) (held_put (hash_of p q 4) 4 b u [] [] y own-b m)
    ∙ held_put (hash_of p q 4) 4 a v (b ∷ []) (u ∷ []) x own-a l
