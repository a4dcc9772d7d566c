-- A list has one two-level table with the least multipliers: two runs of words that are, agree word by word up to the total. The least multiplier
-- that passes is one number; the starts follow from the loads, own cells from starts and q's, and what a cell holds from own cells.
use Prim.Native.Nat.{ℕ, zero, suc, ◌+◌, ◌*◌, ◌-◌, ◌<◌, ◌≤◌}
use native.Mathlib.Decide.{ℕ_discrete, dec_lt}
use native.Mathlib.Numerals.{add-one}
use native.Mathlib.Omega.{arith}
use mathlib.Core.Bool.{Bool}
use mathlib.Core.List.{List}
use mathlib.Core.Logic.{inl, inr}
use mathlib.Core.Path.{◌≡◌, refl, sym, ap, ap₂, ◌∙◌}
use borrow.Author.Tests.{ne_eqb}
use lib.Dec.{eqb}
use lib.ListN.{length, get_or, take}
use lib.Seq.{ext_get_or, get_or-take, length-take-le}
use Rattle.hash.specs.Hash.{hash_of, load, members, together, sum}
use Rattle.hash.specs.Theorems.{Least}
use Rattle.hash.proofs.Counting.{hash_lt}
use Rattle.hash.proofs.LeastLaws.{least_unique}
use Rattle.table.specs.Words.{code_count, cell_count, multiplier, total_of, block_start, block_end, block_multiplier, cell_code, cell_schedule, block_of, cell_in, own_cell}
use Rattle.table.proofs.Held.{holder}
use Rattle.demands.specs.Theorems.{TwoLevelTable}

least_same : (test : ℕ → Bool) (p j k : ℕ) → Least test p j → Least test p k → j ≡ k
least_same test p j k a b = sym (least_unique test p j a) ∙ least_unique test p k b

module _ (codes schedules u v : List ℕ) (a : TwoLevelTable codes schedules u) (b : TwoLevelTable codes schedules v) where
  abbrev n : ℕ
  n = length codes

  same_n : code_count u ≡ code_count v
  same_n = a.blocks ∙ sym b.blocks

  same_k : multiplier u ≡ multiplier v
  same_k =
      elim (ℕ_discrete n 0) [
        | yes none ↦ a.k_of_none none ∙ sym (b.k_of_none none)
        | no some ↦ least_same _ 65537 _ _ (a.k_least (omega arith)) (b.k_least (omega arith))
      ]

  pub same_c : cell_count u ≡ cell_count v
  same_c =
      a.cells_sum
      ∙ ap (λ (k : ℕ). sum (λ j. load 65537 k n j codes * load 65537 k n j codes) n) same_k
      ∙ sym b.cells_sum

  -- ---- one block

  same_load : (j : ℕ) → load 65537 (multiplier u) n j codes ≡ load 65537 (multiplier v) n j codes
  same_load j = ap (λ (k : ℕ). load 65537 k n j codes) same_k

  -- where a block ends, the next one starts
  next_start : (words : List ℕ) → TwoLevelTable codes schedules words → (j : ℕ) → suc j < n → block_start words (suc j) ≡ block_end words j
  next_start words t j l =
      ap (λ (i : ℕ). get_or words (3 + i) 0) (sym (add-one j)) ∙ sym (rw (ne_eqb (j + 1) (code_count words) (λ e. omega (arith, t.blocks))))

  ends_from : (j : ℕ) → j < n → block_start u j ≡ block_start v j → block_end u j ≡ block_end v j
  ends_from j l e = omega (arith, a.squares j l, b.squares j l, ap (λ (m : ℕ). m * m) (same_load j))

  same_start : (j : ℕ) → j < n → block_start u j ≡ block_start v j
  same_start zero l = a.first_start l ∙ sym (b.first_start l)
  same_start (suc j) l =
      next_start u a j l ∙ ends_from j (omega arith) (same_start j (omega arith)) ∙ sym (next_start v b j l)

  same_end : (j : ℕ) → j < n → block_end u j ≡ block_end v j
  same_end j l = ends_from j l (same_start j l)

  same_q : (j : ℕ) → j < n → block_multiplier u j ≡ block_multiplier v j
  same_q j l =
      let block : List ℕ = members 65537 (multiplier v) n j codes in
      least_same (λ q. eqb (together 65537 q (length block * length block) block) 0) 65537 _ _ (rw same_k at (a.q_least j l)) (b.q_least j l)

  -- ---- one cell

  same_place : (j : ℕ) → j < n → (x : ℕ) → cell_in 65537 u j x ≡ cell_in 65537 v j x
  unfolding cell_in
  same_place j l x =
      ap₂ ◌+◌ (same_start j l) (ap₂ (λ (q w : ℕ). hash_of 65537 q w x) (same_q j l) (ap₂ ◌-◌ (same_end j l) (same_start j l)))

  same_own : 0 < n → (x : ℕ) → own_cell 65537 u x ≡ own_cell 65537 v x
  unfolding own_cell block_of
  same_own some x =
      let j : ℕ = hash_of 65537 (multiplier v) (code_count v) x in
      let l : j < n = omega (arith, hash_lt 65537 (multiplier v) (code_count v) x (omega (arith, b.blocks)), b.blocks) in
      ap₂ (λ (k m : ℕ). cell_in 65537 u (hash_of 65537 k m x) x) same_k same_n ∙ same_place j l x

  cells_some : (i : ℕ) → i < cell_count u → 0 < n
  unfolding sum
  cells_some i l =
      elim (ℕ_discrete n 0) [
        | yes none ↦ absurd (omega (arith, a.cells_sum, ap (sum (λ j. load 65537 (multiplier u) n j codes * load 65537 (multiplier u) n j codes)) none))
        | no some ↦ omega arith
      ]

  same_cell : (i : ℕ) → i < cell_count u → (cell_code u i ≡ cell_code v i) × (cell_schedule u i ≡ cell_schedule v i)
  same_cell i l =
      elim (holder (own_cell 65537 u) codes codes i refl) [
        | inl h ↦
            let x : ℕ = h.index in
            let own : own_cell 65537 v (get_or codes x 0) ≡ i = sym (same_own (cells_some i l) (get_or codes x 0)) ∙ h.its_own in (
              (rw h.its_own at (a.code_there x h.in_list)) ∙ sym (rw own at (b.code_there x h.in_list)),
              (rw h.its_own at (a.schedule_there x h.in_list)) ∙ sym (rw own at (b.schedule_there x h.in_list)),
            )
        | inr none ↦
            let (code-u, schedule-u) = a.empty_cell i l none in
            let (code-v, schedule-v) =
            b.empty_cell i (omega (arith, same_c)) (λ x h e. none x h (same_own (cells_some i l) (get_or codes x 0) ∙ e)) in
            (code-u ∙ sym code-v, schedule-u ∙ sym schedule-v)
      ]

  -- ---- one word

  Agree : ℕ → Type 0
  Agree i = get_or u i 0 ≡ get_or v i 0

  at_place : (i m : ℕ) → i ≡ m → Agree m → Agree i
  at_place i m e same = rw e same

  word_q : (j : ℕ) → j < n → Agree (3 + code_count v + j)
  unfolding Agree
  word_q j l = ap (λ (m : ℕ). get_or u (3 + m + j) 0) (sym same_n) ∙ same_q j l

  word_code : (i : ℕ) → i < cell_count u → Agree (3 + 2 * code_count v + i)
  unfolding Agree
  word_code i l = ap (λ (m : ℕ). get_or u (3 + 2 * m + i) 0) (sym same_n) ∙ (same_cell i l).0

  word_schedule : (i : ℕ) → i < cell_count u → Agree (3 + 2 * code_count v + cell_count v + i)
  unfolding Agree
  word_schedule i l = ap₂ (λ (m c : ℕ). get_or u (3 + 2 * m + c + i) 0) (sym same_n) (sym same_c) ∙ (same_cell i l).1

  -- after the sizes
  word_past : (i : ℕ) → i < 2 * n + 2 * cell_count u → Agree (3 + i)
  unfolding Agree
  word_past i l =
      elim (dec_lt i n) [
        | yes start ↦ same_start i start
        | no past-starts ↦
            elim (dec_lt i (2 * n)) [
              | yes q ↦ at_place (3 + i) (3 + code_count v + (i - n)) (omega (arith, b.blocks)) (word_q (i - n) (omega arith))
              | no past-qs ↦
                  elim (dec_lt i (2 * n + cell_count u)) [
                    | yes code ↦ at_place (3 + i) (3 + 2 * code_count v + (i - 2 * n)) (omega (arith, b.blocks)) (word_code (i - 2 * n) (omega arith))
                    | no past-codes ↦
                        at_place (3 + i) (3 + 2 * code_count v + cell_count v + (i - (2 * n + cell_count u))) (omega (arith, b.blocks, same_c))
                        (word_schedule (i - (2 * n + cell_count u)) (omega arith))
                  ]
            ]
      ]

  same_word : (i : ℕ) → i < total_of n (cell_count u) → Agree i
  unfolding Agree
  same_word zero l = same_n
  same_word (suc zero) l = same_c
  same_word (suc (suc zero)) l = same_k
  same_word (suc (suc (suc i))) l = at_place (suc (suc (suc i))) (3 + i) (omega arith) (word_past i (omega arith))

  pub only_table : (m : ℕ) → m ≡ total_of n (cell_count u) → m ≤ length u → m ≤ length v → take m u ≡ take m v
  unfolding Agree
  only_table m e lu lv =
      let long-u : length (take m u) ≡ m = length-take-le m u lu in
      let long-v : length (take m v) ≡ m = length-take-le m v lv in
      ext_get_or 0 (take m u) (take m v) (long-u ∙ sym long-v)
      (λ i l.
      let h : i < m = omega arith in
      get_or-take m u i 0 h ∙ same_word i (omega arith) ∙ sym (get_or-take m v i 0 h))
