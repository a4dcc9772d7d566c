-- The cells of a list, counted from its last code to its first. When i codes are left, each count is the load of a block with the codes
-- from i on, and c is their cells: one for each code, and two for each pair that is put together. Cells only grow with the codes, so that
-- c past the bound decides before all are counted.
use Prim.Native.Nat.{ℕ, ◌+◌, ◌*◌, ◌-◌, ◌<◌, ◌≤◌}
use native.Mathlib.Decide.{ℕ_discrete, dec_lt}
use native.Mathlib.Nat.{mul-le-mul_right}
use native.Mathlib.Omega.{arith}
use mathlib.Core.Bool.{Bool, true, false, cond}
use mathlib.Core.List.{List, [], ◌∷◌}
use mathlib.Core.Path.{◌≡◌, refl, sym, ap, ◌∙◌}
use borrow.Author.Tests.{le-leb, lt-leb, eq-eqb, ne_eqb}
use lib.Dec.{eqb}
use lib.ListN.{length, get_or, drop, set, replicate, length-set, get_or-replicate, length-replicate}
use lib.Seq.{drop-length, get_or-set_same, get_or-set_other}
use Rattle.hash.specs.Hash.{hash_of, load, together, cells}
use Rattle.hash.specs.code.Contract.{Hashed}
use Rattle.hash.proofs.Counting.{cells_is}
use Rattle.hash.proofs.Indicators.{indicator, indicator_eq, indicator_ne, indicator_square}
use Rattle.prelude.specs.Limits.{room}
use Rattle.prelude.specs.Tabulate.{tabulate}
use Rattle.prelude.proofs.Tabulate.{tabulate_is}
use Rattle.std.specs.Prelude.{Some, None}
use Rattle.std.proofs.lemmas.Option.{none-some}
use Rattle.search.specs.code.Blocks.{count_of, Blocked, Counted}
use Rattle.jumps.proofs.Ends.{drop_before, together_drop}

-- blocks and loads that are known place by place
blocked_each :
    {p k : ℕ} {codes blocks counts : List ℕ} → (length blocks ≡ length codes) × (length counts ≡ length codes)
    → ((i : ℕ) → i < length codes → get_or blocks i 0 ≡ hash_of p k (length codes) (get_or codes i 0))
    → ((t : ℕ) → t < length codes → get_or counts t 0 ≡ load p k (length codes) t codes) → Blocked p k codes blocks counts
blocked_each {p} {k} {codes} {blocks} {counts} (same, sized) blocks_are loads_are =
    record {
      blocks_are = tabulate_is _ blocks (λ i l. blocks_are i (omega arith)) ∙ ap (tabulate _) same;
      loads_are = tabulate_is _ counts (λ t l. loads_are t (omega arith)) ∙ ap (tabulate _) sized;
    }

-- one count more
pub raised : (counts : List ℕ) (t u : ℕ) → t < length counts → get_or (set counts t (get_or counts t 0 + 1)) u 0 ≡ indicator (eqb t u) + get_or counts u 0
raised counts t u l =
    elim (ℕ_discrete u t) [
      | yes e ↦ rw e (omega (arith, get_or-set_same counts t (get_or counts t 0 + 1) 0 l, indicator_eq t t refl))
      | no ne ↦ omega (arith, get_or-set_other counts t u (get_or counts t 0 + 1) 0 ne, indicator_ne t u (λ e. ne (sym e)))
    ]

-- the pairs within one block are pairs that are put together
load_square :
    (p k w t : ℕ) (s : List ℕ) → load p k w t s * load p k w t s ≤ load p k w t s + 2 * together p k w s
unfolding load together
load_square p k w t [] = omega arith
load_square p k w t (a ∷ s) =
    elim (ℕ_discrete (hash_of p k w a) t) [
      | yes e ↦ rw (eq-eqb (hash_of p k w a) t e, e, indicator_square true (load p k w t s)) (omega (arith, load_square p k w t s))
      | no ne ↦ rw (ne_eqb (hash_of p k w a) t ne, indicator_square false (load p k w t s)) (omega (arith, load_square p k w t s))
    ]

-- the codes from i on are counted, and the bound is kept
pub record Counting (p k : ℕ) (codes : List ℕ) (i : ℕ) (blocks counts : List ℕ) (c : ℕ) : Type 0 where
  pub left : i ≤ length codes
  pub blocked : length blocks ≡ length codes
  pub sized : length counts ≡ length codes
  pub blocks_are : (t : ℕ) → i ≤ t → t < length codes → get_or blocks t 0 ≡ hash_of p k (length codes) (get_or codes t 0)
  pub loads : (t : ℕ) → t < length codes → get_or counts t 0 ≡ load p k (length codes) t (drop i codes)
  pub count : c + i ≡ length codes + 2 * together p k (length codes) (drop i codes)
  pub bound : c + 2 ≤ 3 * length codes

pub counting_start :
    {p k : ℕ} {codes blocks counts : List ℕ} {n : ℕ} → 0 < length codes → length blocks ≡ length codes → n ≡ length codes
    → counts ≡ replicate n 0 → Counting p k codes (length codes) blocks counts 0
unfolding load together
counting_start {p} {k} {codes} {blocks} {counts} {n} some same e zeros =
    record {
      left = omega arith;
      blocked = same;
      blocks_are = λ t l m. absurd (omega arith);
      sized = ap length zeros ∙ length-replicate {A = ℕ} n 0 ∙ e;
      loads = λ t l. rw (drop-length codes, zeros) (get_or-replicate n t 0 0 (omega arith));
      count = rw (drop-length codes) (omega arith);
      bound = omega arith;
    }

-- the next code is counted in its block t
module _
    {p k : ℕ} {codes : List ℕ} {i : ℕ} {blocks counts : List ℕ} {c : ℕ} (h : Counting p k codes i blocks counts c) (pos : 0 < i) {n t : ℕ}
    (all : n ≡ length codes) (hashed : Hashed p k n (get_or codes (i - 1) 0) t)
  where
    own : t ≡ hash_of p k (length codes) (get_or codes (i - 1) 0)
    own = rw (← all) hashed.value

    l : t < length codes
    l = omega (arith, hashed.range)

    -- the cells of its block alone are not too many: a count is a byte
    pub counting_byte : length codes ≤ room → get_or counts t 0 < 255
    counting_byte few =
        let m : ℕ = get_or counts t 0 in
        elim (dec_lt m 255) [
          | yes small ↦ small
          | no ge ↦
              let large : 255 ≤ m = omega arith in
              absurd
              (omega (arith, mul-le-mul_right m large, h.count, h.bound, h.left, rw (← h.loads t l) at (load_square p k (length codes) t (drop i codes))))
        ]

    counting_next : (c + (2 * get_or counts t 0 + 1)) + (i - 1) ≡ length codes + 2 * together p k (length codes) (drop (i - 1) codes)
    unfolding together
    counting_next = rw (drop_before codes i pos h.left, ← own) (omega (arith, h.loads t l, h.count))

    pub counting_more :
        c + (2 * get_or counts t 0 + 1) + 2 ≤ 3 * length codes
        → Counting p k codes (i - 1) (set blocks (i - 1) t) (set counts t (get_or counts t 0 + 1)) (c + (2 * get_or counts t 0 + 1))
    unfolding load
    counting_more fits =
        record {
          left = omega (arith, h.left);
          blocked = length-set blocks (i - 1) t ∙ h.blocked;
          blocks_are = λ u l v.
              elim (ℕ_discrete u (i - 1)) [
                | yes e ↦ rw e (get_or-set_same blocks (i - 1) t 0 (omega (arith, h.blocked, h.left)) ∙ own)
                | no ne ↦ get_or-set_other blocks (i - 1) u t 0 ne ∙ h.blocks_are u (omega arith) v
              ];
          sized = length-set counts t (get_or counts t 0 + 1) ∙ h.sized;
          loads = λ u v. rw (drop_before codes i pos h.left, ← own) (omega (arith, raised counts t u (omega (arith, h.sized)), h.loads u v));
          count = counting_next;
          bound = fits;
        }

    pub counting_over : 3 * length codes < c + (2 * get_or counts t 0 + 1) + 2 → count_of p k codes ≡ None
    counting_over over =
        ap (λ (b : Bool). cond b (Some (cells p k codes)) None)
        (lt-leb (cells p k codes + 2) (3 * length codes)
        (omega (arith, counting_next, cells_is p k codes (omega arith), together_drop p k (length codes) codes (i - 1), h.left)))

module _
    {p k : ℕ} {codes : List ℕ} {i : ℕ} {blocks counts : List ℕ} {c : ℕ} (h : Counting p k codes i blocks counts c) (end : i ≤ 0)
  where
    none_left : i ≡ 0
    none_left = omega arith

    pub counting_all : 0 < length codes → count_of p k codes ≡ Some c
    counting_all some =
        let e : cells p k codes ≡ c =
        omega
        (arith, h.count, cells_is p k codes some, ap (λ (j : ℕ). together p k (length codes) (drop j codes)) none_left) in
        ap (λ (b : Bool). cond b (Some (cells p k codes)) None)
        (le-leb (cells p k codes + 2) (3 * length codes) (omega (arith, h.bound)))
        ∙ ap Some e

    pub counting_blocked : Blocked p k codes blocks counts
    counting_blocked = blocked_each (h.blocked, h.sized) (λ t l. h.blocks_are t (omega arith) l) (rw none_left at h.loads)

-- where the cells are too many nothing is left
pub over_leaves : {p k : ℕ} {codes blocks counts : List ℕ} → count_of p k codes ≡ None → Counted p k codes None blocks counts
over_leaves over = record { answers = sym over; leaves = λ c fits. absurd (none-some c fits) }
