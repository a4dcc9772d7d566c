-- The table of a list does not depend on the order of its pairs: loads and pairs put together are sums over the codes, so k, c, the
-- starts and the q's stay, and a cell holds the code whose own it is.
use Prim.Native.Nat.{ℕ, ◌+◌, ◌*◌, ◌<◌}
use native.Mathlib.Omega.{arith}
use mathlib.Core.List.Memᴰ
use mathlib.Core.List.{List, [], ◌∷◌, ◌++◌, Memᴰ, Permᴰ}
use mathlib.Core.Logic.{inl, inr}
use mathlib.Core.Path.{◌≡◌, refl, sym, ap, ap₂, ◌∙◌}
use lib.Dec.{eqb, leb}
use lib.ListN.{length, get_or}
use Rattle.hash.specs.Hash.{load, members, together, cells, Codes}
use Rattle.hash.specs.Theorems.{Prime}
use Rattle.hash.proofs.Sums.{sum_ext}
use Rattle.hash.proofs.Members.{mem_at, at_mem}
use Rattle.hash.proofs.Orders.{perm_length, perm_load, perm_together, perm_members, perm_cells, same_perm}
use Rattle.hash.proofs.LeastLaws.{least_ext}
use Rattle.table.specs.Words.{own_cell}
use Rattle.prelude.specs.Tabulate.{tabulate}
use Rattle.table.specs.TwoLevel.{blocks_multiplier, cells_multiplier, start_of, front_with, front_of, held_at, table_with, cells_of, words_needed, table_of}
use Rattle.prelude.proofs.Tabulate.{tabulate_ext}
use Rattle.table.proofs.Front.{block_q}
use Rattle.table.proofs.Held.{Apart, held_own, held_none, holder}
use Rattle.table.proofs.Own.{front_apart}
use Rattle.table.proofs.Contents.{cells_of_is, needed_is, front_of_is, table_is}

-- ---- what the codes alone decide

module _ (p : ℕ) {s r : List ℕ} (o : Permᴰ s r) where
  pub cells_multiplier_order : cells_multiplier p s ≡ cells_multiplier p r
  unfolding cells_multiplier
  cells_multiplier_order =
      least_ext _ _ p
      (λ q from below.
      ap (λ (n : ℕ). eqb n 0)
      (ap (λ (m : ℕ). together p q (m * m) s) (perm_length o) ∙ perm_together p q (length r * length r) o))

  pub start_order : (k j : ℕ) → start_of p k s j ≡ start_of p k r j
  unfolding start_of
  start_order k j =
      sum_ext _ _ j
      (λ t l. ap (λ (m : ℕ). m * m) (ap (λ (n : ℕ). load p k n t s) (perm_length o) ∙ perm_load p k (length r) t o))

blocks_multiplier_order : (p : ℕ) (s r : List ℕ) → Permᴰ s r → blocks_multiplier p s ≡ blocks_multiplier p r
unfolding blocks_multiplier
blocks_multiplier_order p [] [] o = refl
blocks_multiplier_order p [] (b ∷ r) o = absurd (omega (arith, perm_length o))
blocks_multiplier_order p (a ∷ s) [] o = absurd (omega (arith, perm_length o))
blocks_multiplier_order p (a ∷ s) (b ∷ r) o =
    least_ext _ _ p (λ k from below. ap₂ (λ (c n : ℕ). leb (c + 2) (3 * n)) (perm_cells p k o) (perm_length o))

front_by : ℕ → ℕ → ℕ → (ℕ → ℕ) → (ℕ → ℕ) → List ℕ
front_by n c k f g = (n ∷ c ∷ k ∷ []) ++ (tabulate f n ++ tabulate g n)

module _ (p : ℕ) {s r : List ℕ} (o : Permᴰ s r) where
  block_q_order : (k j : ℕ) → block_q p k s j ≡ block_q p k r j
  block_q_order k j =
      ap (λ (n : ℕ). cells_multiplier p (members p k n j s)) (perm_length o)
      ∙ cells_multiplier_order p (perm_members p k (length r) j o)

  front_order : (k : ℕ) → front_with p k s ≡ front_with p k r
  unfolding front_with front_by
  front_order k =
      ap₂ (λ (n c : ℕ). front_by n c k (start_of p k s) (block_q p k s)) (perm_length o) (perm_cells p k o)
      ∙ ap₂ (λ (a b : List ℕ). (length r ∷ cells p k r ∷ k ∷ []) ++ (a ++ b))
      (tabulate_ext (start_of p k s) (start_of p k r) (length r) (λ j l. start_order p o k j))
      (tabulate_ext (block_q p k s) (block_q p k r) (length r) (λ j l. block_q_order k j))

  pub front_of_order : front_of p s ≡ front_of p r
  front_of_order =
      front_of_is p s
      ∙ ap (λ (k : ℕ). front_with p k s) (blocks_multiplier_order p s r o)
      ∙ front_order (blocks_multiplier p r)
      ∙ sym (front_of_is p r)

  pub cells_of_order : cells_of p s ≡ cells_of p r
  cells_of_order =
      cells_of_is p s
      ∙ ap (λ (k : ℕ). cells p k s) (blocks_multiplier_order p s r o)
      ∙ perm_cells p (blocks_multiplier p r) o
      ∙ sym (cells_of_is p r)

  pub needed_order : words_needed p s ≡ words_needed p r
  needed_order = omega (arith, needed_is p s, needed_is p r, cells_of_order, perm_length o)

-- ---- what each cell holds

-- each pair of a list stands in another list
abbrev pub PairsIn : List ℕ → List ℕ → List ℕ → List ℕ → Type 0
PairsIn codes values codes' values' =
    (x : ℕ) → x < length codes
    → (y : ℕ) × (y < length codes') × (get_or codes' y 0 ≡ get_or codes x 0) × (get_or values' y 0 ≡ get_or values x 0)

pub held_order :
    (p : ℕ) (front codes values codes' values' : List ℕ) → length values ≡ length codes → length values' ≡ length codes'
    → Apart (own_cell p front) codes' → PairsIn codes values codes' values' → PairsIn codes' values' codes values
    → (i : ℕ) → held_at (own_cell p front) codes values i ≡ held_at (own_cell p front) codes' values' i
held_order p front codes values codes' values' same same' apart there back i =
    elim (holder (own_cell p front) codes values i same) [
      | inl h ↦
          let (y, l, code, value) = there h.index h.in_list in
          h.holds
          ∙ sym value
          ∙ sym (held_own (own_cell p front) codes' values' same' apart y l)
          ∙ ap (held_at (own_cell p front) codes' values') (ap (own_cell p front) code ∙ h.its_own)
      | inr none ↦
          held_none (own_cell p front) codes values i none
          ∙ sym (held_none (own_cell p front) codes' values' i
          (λ y l e. let (x, h, code, value) = back y l in none x h (ap (own_cell p front) code ∙ e)))
    ]

mem_in :
    {a : ℕ} (codes values codes' values' : List ℕ) → PairsIn codes values codes' values' → Memᴰ a codes → Memᴰ a codes'
mem_in codes values codes' values' there m =
    let (x, h, e) = at_mem m in
    let (y, l, code, value) = there x h in
    Memᴰ.cast (sym e ∙ sym code) (mem_at codes' y l)

codes_in_lem :
    (codes values codes' values' : List ℕ) → PairsIn codes values codes' values' → PairsIn codes codes codes' codes'
codes_in_lem codes values codes' values' there x h = let (y, l, code, value) = there x h in (y, l, code, code)

-- ---- two lists that have each other's pairs

pub codes_order :
    {p : ℕ} (codes values codes' values' : List ℕ) → Codes p codes → Codes p codes' → PairsIn codes values codes' values'
    → PairsIn codes' values' codes values → Permᴰ codes codes'
codes_order codes values codes' values' valid valid' there back =
    same_perm codes codes' valid.different valid'.different
    (λ a. mem_in codes values codes' values' there)
    (λ a. mem_in codes' values' codes values back)

module _
    {p : ℕ} (prime : Prime p) (codes schedules codes' schedules' : List ℕ) (valid : Codes p codes) (valid' : Codes p codes')
    (same : length schedules ≡ length codes) (same' : length schedules' ≡ length codes')
    (there : PairsIn codes schedules codes' schedules') (back : PairsIn codes' schedules' codes schedules)
  where
    with_order :
        (front : List ℕ) (c : ℕ) → Apart (own_cell p front) codes' → table_with p front c codes schedules ≡ table_with p front c codes' schedules'
    unfolding table_with
    with_order front c apart =
        ap₂ (λ (a b : List ℕ). front ++ (a ++ b))
        (tabulate_ext _ _ c
        (λ i l.
        held_order p front codes codes codes' codes' refl refl apart (codes_in_lem codes schedules codes' schedules' there)
        (codes_in_lem codes' schedules' codes schedules back)
        i))
        (tabulate_ext _ _ c (λ i l. held_order p front codes schedules codes' schedules' same same' apart there back i))

    pub table_order : table_of p codes schedules ≡ table_of p codes' schedules'
    table_order =
        let o : Permᴰ codes codes' = codes_order codes schedules codes' schedules' valid valid' there back in
        table_is p codes schedules
        ∙ ap₂ (λ (front : List ℕ) (c : ℕ). table_with p front c codes schedules) (front_of_order p o) (cells_of_order p o)
        ∙ with_order (front_of p codes') (cells_of p codes') (front_apart prime codes' valid')
        ∙ sym (table_is p codes' schedules')
