-- The cells of a table, block by block: those of block j hold the values of its own codes, each at its code's place in the block. A code of
-- another block has its own cell among that block's cells, before or after these.
use Prim.Native.Nat.{ℕ, suc, ◌+◌, ◌<◌}
use native.Mathlib.Decide.{ℕ_discrete, dec_lt}
use native.Mathlib.Omega.{arith}
use mathlib.Core.List.{List, [], ◌∷◌, ◌++◌}
use mathlib.Core.Path.{◌≡◌, refl, sym, ap, ◌∙◌}
use lib.ListN.{length, get_or}
use Rattle.hash.specs.Hash.{hash_of, load, members}
use Rattle.hash.proofs.Members.{members_in, members_out}
use Rattle.table.specs.Words.{own_cell}
use Rattle.prelude.specs.Pairs.{paired, pairs_where, value_where}
use Rattle.prelude.specs.Tabulate.{tabulate}
use Rattle.table.specs.TwoLevel.{start_of, held_at}
use Rattle.prelude.proofs.Tabulate.{tabulate_ext, tabulate_append}
use Rattle.table.proofs.Front.{size_of, block_q, own_of, start_next, start_rises, Fronted, own_is, own_from, own_below}
use Rattle.table.proofs.Held.{held_here, held_later}
use Rattle.table.proofs.Own.{listed_load}
use Rattle.search.specs.code.Placed.{values_of}
use Rattle.search.proofs.PlacedLaws.{values_of_in, values_of_out, values_of_codes}

module _ {p k : ℕ} {codes words : List ℕ} (f : Fronted p k codes words) (j : ℕ) (h : j < length codes) where
  -- a code of block j has its own cell at its place in the block
  own_in : (a : ℕ) → hash_of p k (length codes) a ≡ j → own_cell p words a ≡ start_of p k codes j + hash_of p (block_q p k codes j) (size_of p k codes j) a
  unfolding own_of
  own_in a e = own_is f a (omega arith) ∙ rw e

  -- a code of another block has it elsewhere
  own_out :
      (a t : ℕ) → 0 < load p k (length codes) (hash_of p k (length codes) a) codes → t < size_of p k codes j
      → (hash_of p k (length codes) a ≡ j → ⊥) → own_cell p words a ≡ start_of p k codes j + t → ⊥
  own_out a t some l ne e =
      let i : ℕ = hash_of p k (length codes) a in
      let own : own_of p k codes a ≡ start_of p k codes j + t = sym (own_is f a (omega arith)) ∙ e in
      elim (dec_lt i j) [
        | yes lt ↦ omega (arith, own_below p k codes a some, start_rises p k codes (suc i) j lt)
        | no ge ↦ omega (arith, own_from p k codes a some, start_rises p k codes (suc j) i (omega arith), start_next p k codes j)
      ]

  -- of any codes whose blocks have cells
  pub held_placed :
      (s values : List ℕ) (t : ℕ) → length values ≡ length s → t < size_of p k codes j
      → ((x : ℕ) → x < length s → 0 < load p k (length codes) (hash_of p k (length codes) (get_or s x 0)) codes)
      → held_at (own_cell p words) s values (start_of p k codes j + t)
      ≡ held_at (hash_of p (block_q p k codes j) (size_of p k codes j)) (members p k (length codes) j s) (values_of p k (length codes) j s values) t
  unfolding held_at paired value_where values_of pairs_where members
  held_placed [] values t same l some = refl
  held_placed (a ∷ s) [] t same l some = absurd (omega arith)
  held_placed (a ∷ s) (v ∷ values) t same l some =
      let q : ℕ = block_q p k codes j in
      let w : ℕ = size_of p k codes j in
      let i : ℕ = start_of p k codes j + t in
      let block : List ℕ = members p k (length codes) j s in
      let theirs : List ℕ = values_of p k (length codes) j s values in
      let rest : held_at (own_cell p words) s values i ≡ held_at (hash_of p q w) block theirs t =
      held_placed s values t (omega arith) l (λ x m. some (suc x) (omega arith)) in
      elim (ℕ_discrete (hash_of p k (length codes) a) j) [
        | yes inside ↦
            rw (members_in p k (length codes) j a s inside, values_of_in p k (length codes) j a v s values inside)
            (elim (ℕ_discrete (hash_of p q w a) t) [
              | yes e ↦
                  held_here (own_cell p words) a v s values i (own_in a inside ∙ ap (λ (u : ℕ). start_of p k codes j + u) e)
                  ∙ sym (held_here (hash_of p q w) a v block theirs t e)
              | no ne ↦
                  held_later (own_cell p words) a v s values i (λ e. ne (omega (arith, own_in a inside)))
                  ∙ rest
                  ∙ sym (held_later (hash_of p q w) a v block theirs t ne)
            ])
        | no outside ↦
            rw (members_out p k (length codes) j a s outside, values_of_out p k (length codes) j a v s values outside)
            (held_later (own_cell p words) a v s values i (own_out a t (some 0 (omega arith)) l outside) ∙ rest)
      ]

  pub block_cells :
      (values : List ℕ) → length values ≡ length codes
      → tabulate (held_at (own_cell p words) codes values) (start_of p k codes (suc j))
      ≡ tabulate (held_at (own_cell p words) codes values) (start_of p k codes j)
      ++ tabulate
      (held_at (hash_of p (block_q p k codes j) (size_of p k codes j)) (members p k (length codes) j codes) (values_of p k (length codes) j codes values))
      (size_of p k codes j)
  block_cells values same =
      ap (tabulate (held_at (own_cell p words) codes values)) (start_next p k codes j)
      ∙ tabulate_append (held_at (own_cell p words) codes values) (start_of p k codes j) (size_of p k codes j)
      ∙ ap (λ (s : List ℕ). tabulate (held_at (own_cell p words) codes values) (start_of p k codes j) ++ s)
      (tabulate_ext _ _ (size_of p k codes j) (λ t l. held_placed codes values t same l (listed_load p k codes)))

  -- of the codes themselves
  pub held_codes :
      (t : ℕ) → t < size_of p k codes j
      → let block = members p k (length codes) j codes in
      held_at (own_cell p words) codes codes (start_of p k codes j + t) ≡ held_at (hash_of p (block_q p k codes j) (size_of p k codes j)) block block t
  held_codes t l = rw (values_of_codes p k (length codes) j codes) at (held_placed codes codes t refl l (listed_load p k codes))

  pub block_codes_lem :
      let block = members p k (length codes) j codes in
      tabulate (held_at (own_cell p words) codes codes) (start_of p k codes (suc j))
      ≡ tabulate (held_at (own_cell p words) codes codes) (start_of p k codes j)
      ++ tabulate (held_at (hash_of p (block_q p k codes j) (size_of p k codes j)) block block) (size_of p k codes j)
  block_codes_lem = rw (values_of_codes p k (length codes) j codes) at (block_cells codes refl)
