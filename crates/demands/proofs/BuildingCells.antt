-- How many codes the cells of a built table hold: each block as many as it has codes, for its q puts them in different cells, and all
-- blocks together n.
use Prim.Native.Nat.{ℕ, zero, suc, ◌+◌, ◌*◌, ◌<◌, ◌≤◌}
use native.Mathlib.Decide.{ℕ_discrete}
use native.Mathlib.Nat.{mul-pos}
use native.Mathlib.Omega.{arith}
use mathlib.Core.Bool.{Bool, cond}
use mathlib.Core.List.{List, [], ◌∷◌}
use mathlib.Core.Path.{◌≡◌, refl, sym, ap, ◌∙◌}
use lib.Dec.{eqb}
use lib.ListN.{length}
use borrow.Author.Tests.{ne_eqb}
use Rattle.hash.specs.Hash.{hash_of, load, members, together, sum, cells, Codes}
use Rattle.hash.specs.Theorems.{Prime}
use Rattle.hash.proofs.Indicators.{indicator, indicator_eq, indicator_ne}
use Rattle.hash.proofs.Sums.{sum_ext, sum_add, sum_const, sum_one}
use Rattle.hash.proofs.Counting.{hash_lt, load_members, sum_load}
use Rattle.hash.proofs.Members.{codes_tail, members_codes}
use Rattle.prelude.specs.Pairs.{paired, value_where}
use Rattle.table.specs.Words.{own_cell}
use Rattle.prelude.specs.Tabulate.{tabulate}
use Rattle.table.specs.TwoLevel.{start_of, held_at}
use Rattle.table.proofs.Front.{size_of, block_q, start_last, Fronted}
use Rattle.table.proofs.Held.{held_here, held_later}
use Rattle.table.proofs.Own.{block_apart}
use Rattle.audit.specs.Check.{codes_in}
use Rattle.audit.proofs.Counting.{codes_append}
use Rattle.search.proofs.PlacedLaws.{held_unloaded}
use Rattle.search.proofs.BlockCells.{block_codes_lem}

-- a cell counts where it holds a code
abbrev full : ℕ → ℕ
full a = cond (eqb a 0) 0 1

codes_tabulate : (f : ℕ → ℕ) (n : ℕ) → codes_in (tabulate f n) ≡ sum (λ t. full (f t)) n
unfolding tabulate sum codes_in
codes_tabulate f zero = refl
codes_tabulate f (suc n) = omega (arith, codes_append (tabulate f n) (f n ∷ []), codes_tabulate f n)

-- one code more fills one cell more
full_more :
    (p q w a : ℕ) (block : List ℕ) (t : ℕ) → 0 < a → load p q w (hash_of p q w a) block ≡ 0
    → full (held_at (hash_of p q w) (a ∷ block) (a ∷ block) t) ≡ indicator (eqb (hash_of p q w a) t) + full (held_at (hash_of p q w) block block t)
full_more p q w a block t pos none =
    elim (ℕ_discrete (hash_of p q w a) t) [
      | yes e ↦
          omega (
            arith,
            ap full (held_here (hash_of p q w) a a block block t e),
            ap {B = ℕ} (λ (b : Bool). cond b 0 1) (ne_eqb a 0 (λ z. omega arith)),
            indicator_eq (hash_of p q w a) t e,
            ap full (held_unloaded p q w block block t (rw e at none)),
          )
      | no ne ↦ omega (arith, ap full (held_later (hash_of p q w) a a block block t ne), indicator_ne (hash_of p q w a) t ne)
    ]

full_all :
    (p q w : ℕ) (block : List ℕ) → 0 < w → Codes p block → together p q w block ≡ 0
    → sum (λ t. full (held_at (hash_of p q w) block block t)) w ≡ length block
unfolding together held_at paired value_where
full_all p q w [] pos valid none = omega (arith, sum_const 0 w)
full_all p q w (a ∷ block) pos valid none =
    omega (
      arith,
      sum_ext (λ t. full (held_at (hash_of p q w) (a ∷ block) (a ∷ block) t)) (λ t. indicator (eqb (hash_of p q w a) t) + full (held_at (hash_of p q w) block block t)) w
          (λ t l. full_more p q w a block t (valid.positive 0 (omega arith)) (omega arith)),
      sum_add (λ t. indicator (eqb (hash_of p q w a) t)) (λ t. full (held_at (hash_of p q w) block block t)) w,
      sum_one (hash_of p q w a) w (hash_lt p q w a pos),
      full_all p q w block pos (codes_tail valid) (omega arith),
    )

module _ {p : ℕ} (prime : Prime p) (k : ℕ) (codes : List ℕ) (valid : Codes p codes) where
  -- block j holds its codes
  pub block_full :
      (j : ℕ)
      → let block = members p k (length codes) j codes in
      codes_in (tabulate (held_at (hash_of p (block_q p k codes j) (size_of p k codes j)) block block) (size_of p k codes j))
      ≡ load p k (length codes) j codes
  unfolding tabulate codes_in
  block_full j =
      let m : ℕ = load p k (length codes) j codes in
      let block : List ℕ = members p k (length codes) j codes in
      elim (ℕ_discrete m 0) [
        | yes none ↦
            ap (λ (l : ℕ). codes_in (tabulate (held_at (hash_of p (block_q p k codes j) (m * m)) block block) (l * l))) none ∙ sym none
        | no some ↦
            let pos : 0 < m = omega arith in
            codes_tabulate (held_at (hash_of p (block_q p k codes j) (m * m)) block block) (m * m)
            ∙ full_all p (block_q p k codes j) (m * m) block (mul-pos pos pos)
            (members_codes p k (length codes) j codes valid)
            (block_apart prime k codes valid j)
            ∙ load_members p k (length codes) j codes
      ]

  -- so the blocks before block j hold all their codes
  module _ (words : List ℕ) (f : Fronted p k codes words) where
    blocks_full :
        (j : ℕ) → j ≤ length codes
        → codes_in (tabulate (held_at (own_cell p words) codes codes) (start_of p k codes j)) ≡ sum (λ t. load p k (length codes) t codes) j
    unfolding sum start_of tabulate codes_in
    blocks_full zero h = refl
    blocks_full (suc j) h =
        let before : List ℕ = tabulate (held_at (own_cell p words) codes codes) (start_of p k codes j) in
        let block : List ℕ = members p k (length codes) j codes in
        let these : List ℕ = tabulate (held_at (hash_of p (block_q p k codes j) (size_of p k codes j)) block block) (size_of p k codes j) in
        omega (arith, ap codes_in (block_codes_lem f j h), codes_append before these, blocks_full j (omega arith), block_full j)

    pub table_full : codes_in (tabulate (held_at (own_cell p words) codes codes) (cells p k codes)) ≡ length codes
    unfolding sum
    table_full =
        ap (λ (c : ℕ). codes_in (tabulate (held_at (own_cell p words) codes codes) c)) (sym (start_last p k codes))
        ∙ blocks_full (length codes) (omega arith)
        ∙ elim (ℕ_discrete (length codes) 0) [
          | yes none ↦ ap (sum (λ t. load p k (length codes) t codes)) none ∙ sym none
          | no some ↦ sum_load p k (length codes) (omega arith) codes
        ]
