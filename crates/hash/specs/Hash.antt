-- The hash of the two-level table (source document 000), for any prime p, and the least multiplier.
-- A multiplier is k for the blocks and q for the cells of one block. Definitions only.
use Rattle.std.specs.Prelude.{ℕ, zero, suc, ◌+◌, ◌*◌, ◌-◌, ◌%◌, ◌<◌, Bool, true, false, cond, List, [], ◌∷◌, ◌≡◌, eqb, length, get_or}

-- the place of code a among w places: its block (w = n), or its cell in a block (w the block's cells)
unfoldable pub hash_of : ℕ → ℕ → ℕ → ℕ → ℕ
hash_of p k w a = ((k * a) % p) % w

-- the load of place t: how many codes hash to it (B_t(w, S, k) of source 000, definition 1)
unfoldable pub load : ℕ → ℕ → ℕ → ℕ → List ℕ → ℕ
load p k w t [] = 0
load p k w t (a ∷ s) = cond (eqb (hash_of p k w a) t) 1 0 + load p k w t s

-- the codes of place t, in the list's order (S_t of source 000)
unfoldable pub members : ℕ → ℕ → ℕ → ℕ → List ℕ → List ℕ
members p k w t [] = []
members p k w t (a ∷ s) = cond (eqb (hash_of p k w a) t) (a ∷ members p k w t s) (members p k w t s)

-- how many pairs of codes are put together, in one place (the sum of source 000, lemma 1)
unfoldable pub together : ℕ → ℕ → ℕ → List ℕ → ℕ
together p k w [] = 0
together p k w (a ∷ s) = load p k w (hash_of p k w a) s + together p k w s

-- f 0 + f 1 + .. + f (n - 1)
unfoldable pub sum : (ℕ → ℕ) → ℕ → ℕ
sum f zero = 0
sum f (suc n) = sum f n + f n

-- the cells of all blocks: the sum of the squares of the loads of n blocks, n the number of codes
unfoldable pub cells : ℕ → ℕ → List ℕ → ℕ
cells p k codes = sum (λ t. load p k (length codes) t codes * load p k (length codes) t codes) (length codes)

-- the least number from k on that passes, of `tries` numbers; the number after them where none does
unfoldable pub least_from : (ℕ → Bool) → ℕ → ℕ → ℕ
least_from test zero k = k
least_from test (suc tries) k = elim (test k) [ true ↦ k | false ↦ least_from test tries (suc k) ]

-- the least multiplier, from 1 to p - 1, that passes; p where none does
unfoldable pub least : (ℕ → Bool) → ℕ → ℕ
least test p = least_from test (p - 1) 1

-- a list of codes: each from 1 to p - 1, and none twice
pub record Codes (p : ℕ) (codes : List ℕ) : Type 0 where
  pub positive : (i : ℕ) → i < length codes → 0 < get_or codes i 0
  pub below : (i : ℕ) → i < length codes → get_or codes i 0 < p
  pub different : (i j : ℕ) → i < j → j < length codes → get_or codes i 0 ≡ get_or codes j 0 → ⊥
