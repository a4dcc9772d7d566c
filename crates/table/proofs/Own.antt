-- Own cells of listed codes: each is one of the c cells, and different codes have different ones. Codes of different blocks lie
-- in different runs of cells; those of one block are put apart by its q.
use Prim.Native.Nat.{ℕ, suc, ◌+◌, ◌<◌}
use native.Mathlib.Decide.{ℕ_discrete, dec_lt}
use native.Mathlib.Omega.{arith}
use mathlib.Core.List.{List, Memᴰ}
use mathlib.Core.Path.{◌≡◌, refl, sym, ap, ◌∙◌}
use lib.ListN.{length, get_or}
use Rattle.hash.specs.Hash.{hash_of, load, members, together, cells, Codes}
use Rattle.hash.specs.Theorems.{Prime}
use Rattle.hash.proofs.Counting.{hash_lt, load_members, load_zero, together_apart}
use Rattle.hash.proofs.Members.{mem_at, at_mem, mem_members, members_codes}
use Rattle.table.specs.Words.{own_cell}
use Rattle.table.specs.TwoLevel.{blocks_multiplier, start_of, front_of}
use Rattle.table.proofs.Front.{size_of, block_q, own_of, start_rises, start_last, Fronted, front_of_fronted, own_is, own_from, own_below}
use Rattle.table.proofs.Held.{Apart, same_index}
use Rattle.table.proofs.Chosen.{cells_apart}

module _ (p k : ℕ) (codes : List ℕ) where
  -- the block of a listed code has a code
  pub listed_load : (x : ℕ) → x < length codes → 0 < load p k (length codes) (hash_of p k (length codes) (get_or codes x 0)) codes
  listed_load x h =
      elim (ℕ_discrete (load p k (length codes) (hash_of p k (length codes) (get_or codes x 0)) codes) 0) [
        | yes none ↦ absurd (load_zero p k (length codes) _ codes none x h refl)
        | no some ↦ omega arith
      ]

  -- the own cell of a code whose block has cells is one of c
  pub own_lt :
      (a : ℕ) → 0 < length codes → 0 < load p k (length codes) (hash_of p k (length codes) a) codes → own_of p k codes a < cells p k codes
  own_lt a pos some =
      omega (
        arith,
        own_below p k codes a some,
        start_rises p k codes (suc (hash_of p k (length codes) a)) (length codes) (hash_lt p k (length codes) a pos),
        start_last p k codes,
      )

  -- codes with the same own cell belong to one block
  same_block :
      (a b : ℕ) → 0 < load p k (length codes) (hash_of p k (length codes) a) codes
      → 0 < load p k (length codes) (hash_of p k (length codes) b) codes → own_of p k codes a ≡ own_of p k codes b
      → hash_of p k (length codes) a < hash_of p k (length codes) b → ⊥
  same_block a b sa sb e l =
      omega (
        arith,
        own_below p k codes a sa,
        own_from p k codes b sb,
        start_rises p k codes (suc (hash_of p k (length codes) a)) (hash_of p k (length codes) b) l,
      )

module _ {p : ℕ} (prime : Prime p) (k : ℕ) (codes : List ℕ) (valid : Codes p codes) where
  -- q puts the codes of a block in different cells
  pub block_apart : (j : ℕ) → together p (block_q p k codes j) (size_of p k codes j) (members p k (length codes) j codes) ≡ 0
  block_apart j =
      rw (load_members p k (length codes) j codes)
      at (cells_apart prime (members p k (length codes) j codes) (members_codes p k (length codes) j codes valid))

  -- two codes of one block with one place in it are one
  same_place :
      (j a b : ℕ) → Memᴰ a (members p k (length codes) j codes) → Memᴰ b (members p k (length codes) j codes)
      → hash_of p (block_q p k codes j) (size_of p k codes j) a ≡ hash_of p (block_q p k codes j) (size_of p k codes j) b → a ≡ b
  same_place j a b ma mb e =
      let block = members p k (length codes) j codes in
      let (x, hx, ex) = at_mem ma in
      let (y, hy, ey) = at_mem mb in
      let q = block_q p k codes j in
      let w = size_of p k codes j in
      let index : x ≡ y =
      same_index (λ i. hash_of p q w (get_or block i 0)) (length block) (together_apart p q w block (block_apart j)) x y hx hy
      (ap (hash_of p q w) ex ∙ e ∙ ap (hash_of p q w) (sym ey)) in
      sym ex ∙ ap (λ (i : ℕ). get_or block i 0) index ∙ ey

  own_same :
      (a b : ℕ) → Memᴰ a codes → Memᴰ b codes → own_of p k codes a ≡ own_of p k codes b
      → hash_of p k (length codes) a ≡ hash_of p k (length codes) b → a ≡ b
  unfolding own_of
  own_same a b ma mb e block =
      let j = hash_of p k (length codes) b in
      let e' :
      start_of p k codes j + hash_of p (block_q p k codes j) (size_of p k codes j) a
      ≡ start_of p k codes j + hash_of p (block_q p k codes j) (size_of p k codes j) b =
      rw block at e in
      same_place j a b (mem_members p k (length codes) j codes ma block) (mem_members p k (length codes) j codes mb refl) (omega arith)

  pub own_apart :
      (x y : ℕ) → x < y → y < length codes → own_of p k codes (get_or codes x 0) ≡ own_of p k codes (get_or codes y 0) → ⊥
  own_apart x y l h e =
      let n = length codes in
      let a = get_or codes x 0 in
      let b = get_or codes y 0 in
      let sa : 0 < load p k n (hash_of p k n a) codes = listed_load p k codes x (omega arith) in
      let sb : 0 < load p k n (hash_of p k n b) codes = listed_load p k codes y h in
      elim (ℕ_discrete (hash_of p k n a) (hash_of p k n b)) [
        | yes same ↦ valid.different x y l h (own_same a b (mem_at codes x (omega arith)) (mem_at codes y h) e same)
        | no other ↦
            elim (dec_lt (hash_of p k n a) (hash_of p k n b)) [
              | yes lt ↦ same_block p k codes a b sa sb e lt
              | no ge ↦ same_block p k codes b a sb sa (sym e) (omega arith)
            ]
      ]

  -- as read from words
  module _ (words : List ℕ) (f : Fronted p k codes words) where
    pub listed_own_lt : (x : ℕ) → x < length codes → own_cell p words (get_or codes x 0) < cells p k codes
    listed_own_lt x h =
        rw (own_is f (get_or codes x 0) (omega arith)) (own_lt p k codes (get_or codes x 0) (omega arith) (listed_load p k codes x h))

    pub listed_apart : Apart (own_cell p words) codes
    listed_apart x y l h e =
        own_apart x y l h (sym (own_is f (get_or codes x 0) (omega arith)) ∙ e ∙ own_is f (get_or codes y 0) (omega arith))

-- as read from the table's own front
module _ {p : ℕ} (prime : Prime p) (codes : List ℕ) (valid : Codes p codes) where
  pub front_apart : Apart (own_cell p (front_of p codes)) codes
  front_apart = listed_apart prime (blocks_multiplier p codes) codes valid (front_of p codes) (front_of_fronted p codes)
