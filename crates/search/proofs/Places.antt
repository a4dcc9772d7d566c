-- A block's codes, placed in w cells from the last to the first. When i codes are left, a cell holds the code from i on that belongs there,
-- and 0 where there is none: so a cell that is not 0 tells that the next code shares it. Taken out from i on, the codes leave the cells
-- as they were.
use Prim.Native.Nat.{ℕ, zero, suc, ◌+◌, ◌-◌, ◌<◌, ◌≤◌}
use native.Mathlib.Decide.{ℕ_discrete}
use native.Mathlib.Numerals.{add-one}
use native.Mathlib.Omega.{arith}
use mathlib.Core.List.{List, [], ◌∷◌}
use mathlib.Core.Path.{◌≡◌, refl, sym, ap, ◌∙◌}
use lib.ListN.{length, get_or, drop, set, replicate, length-set, length-replicate, drop_of_length-le}
use lib.Seq.{drop-length, drop-cons}
use Rattle.hash.specs.Hash.{hash_of, load, together, Codes}
use Rattle.hash.proofs.Indicators.{indicator_ne}
use Rattle.hash.proofs.Members.{codes_tail}
use Rattle.prelude.specs.Tabulate.{tabulate}
use Rattle.table.specs.TwoLevel.{held_at}
use Rattle.prelude.proofs.Tabulate.{tabulate_at}
use Rattle.table.proofs.Held.{held_here, held_later, held_start, held_put, held_taken}
use Rattle.search.specs.code.Cells.{Placing}
use Rattle.search.proofs.PlacedLaws.{held_unloaded}
use Rattle.jumps.proofs.Ends.{drop_before, together_drop}

codes_drop : {p : ℕ} (s : List ℕ) (i : ℕ) → Codes p s → Codes p (drop i s)
codes_drop s zero c = c
codes_drop [] (suc i) c = c
codes_drop (a ∷ s) (suc i) c = codes_drop s i (codes_tail c)

module _ (p q w : ℕ) where
  -- a cell that holds 0 has no code
  held_zero : {P : ℕ} (s : List ℕ) (t : ℕ) → Codes P s → held_at (hash_of p q w) s s t ≡ 0 → load p q w t s ≡ 0
  unfolding load
  held_zero [] t c free = refl
  held_zero (a ∷ s) t c free =
      elim (ℕ_discrete (hash_of p q w a) t) [
        | yes e ↦ absurd (omega (arith, held_here (hash_of p q w) a a s s t e, c.positive 0 (omega arith)))
        | no ne ↦
            let rest : held_at (hash_of p q w) s s t ≡ 0 = sym (held_later (hash_of p q w) a a s s t ne) ∙ free in
            omega (arith, indicator_ne (hash_of p q w a) t ne, held_zero s t (codes_tail c) rest)
      ]

-- ---- the loop that places

pub placing_start : {p q w : ℕ} {block cells : List ℕ} → cells ≡ replicate w 0 → Placing p q w block (length block) cells
unfolding together
placing_start {p} {q} {w} {block} {cells} zeros =
    record {
      left = omega arith;
      sized = ap length zeros ∙ length-replicate {A = ℕ} w 0;
      apart = rw (drop-length block);
      held = rw (drop-length block) (zeros ∙ sym (held_start (hash_of p q w) w []));
    }

module _ {p q w : ℕ} {block cells : List ℕ} {i : ℕ} (h : Placing p q w block i cells) where
  -- the next code, in its cell t
  module _ (valid : Codes p block) (pos : 0 < i) (t : ℕ) (own : t ≡ hash_of p q w (get_or block (i - 1) 0)) (l : t < w) where
    at_cell : get_or cells t 0 ≡ held_at (hash_of p q w) (drop i block) (drop i block) t
    at_cell = ap (λ (s : List ℕ). get_or s t 0) h.held ∙ tabulate_at (held_at (hash_of p q w) (drop i block) (drop i block)) w t l

    pub placing_more : get_or cells t 0 ≡ 0 → Placing p q w block (i - 1) (set cells t (get_or block (i - 1) 0))
    unfolding together
    placing_more free =
        record {
          left = omega (arith, h.left);
          sized = length-set cells t (get_or block (i - 1) 0) ∙ h.sized;
          apart =
              rw (drop_before block i pos h.left, ← own)
              (omega (arith, held_zero p q w (drop i block) t (codes_drop block i valid) (sym at_cell ∙ free), h.apart));
          held =
              rw (drop_before block i pos h.left)
              (ap (λ (s : List ℕ). set s t (get_or block (i - 1) 0)) h.held
              ∙ held_put (hash_of p q w) w (get_or block (i - 1) 0) (get_or block (i - 1) 0) (drop i block) (drop i block) t own l);
        }

    -- a cell that is taken: two codes are together
    pub placing_stop : (get_or cells t 0 ≡ 0 → ⊥) → together p q w block ≡ 0 → ⊥
    unfolding together
    placing_stop taken none =
        taken
        (at_cell ∙ held_unloaded p q w (drop i block) (drop i block) t
        (omega (arith, rw (drop_before block i pos h.left, ← own) at (together_drop p q w block (i - 1)))))

  pub placing_all : i ≤ 0 → (together p q w block ≡ 0) × (cells ≡ tabulate (held_at (hash_of p q w) block block) w)
  placing_all end =
      let e : i ≡ 0 = omega arith in (
        ap (λ (j : ℕ). together p q w (drop j block)) (sym e) ∙ h.apart,
        h.held ∙ ap (λ (j : ℕ). tabulate (held_at (hash_of p q w) (drop j block) (drop j block)) w) e,
      )

  -- ---- the loop that takes out

  pub placing_less :
      i < length block → (t : ℕ) → t ≡ hash_of p q w (get_or block i 0) → t < w → Placing p q w block (i + 1) (set cells t 0)
  unfolding together
  placing_less more t own l =
      let next : drop i block ≡ get_or block i 0 ∷ drop (i + 1) block = rw (add-one i) (drop-cons block i 0 more) in
      let none : load p q w t (drop (i + 1) block) + together p q w (drop (i + 1) block) ≡ 0 = rw (next, ← own) at h.apart in
      record {
        left = omega arith;
        sized = length-set cells t 0 ∙ h.sized;
        apart = omega arith;
        held =
            ap (λ (s : List ℕ). set s t 0) (h.held ∙ ap (λ (s : List ℕ). tabulate (held_at (hash_of p q w) s s) w) next)
            ∙ held_taken (hash_of p q w) w (get_or block i 0) (get_or block i 0) (drop (i + 1) block) (drop (i + 1) block) t own l
            (held_unloaded p q w (drop (i + 1) block) (drop (i + 1) block) t (omega arith));
      }

  pub placing_none : length block ≤ i → cells ≡ replicate w 0
  placing_none end =
      h.held
      ∙ ap (λ (s : List ℕ). tabulate (held_at (hash_of p q w) s s) w) (drop_of_length-le block end)
      ∙ held_start (hash_of p q w) w []
