-- What is proved of the hash and its multipliers, for a prime in general. Statements only: proofs/Theorems.antt has the proof of each.
use Rattle.std.specs.Prelude.{ℕ, suc, ◌+◌, ◌*◌, ◌-◌, ◌/◌, ◌%◌, ◌<◌, ◌≤◌, Bool, true, false, cond, List, ◌≡◌, eqb, length}
use Rattle.hash.specs.Hash.{hash_of, members, together, sum, cells, least, Codes}

-- p is prime: no number from 2 to p - 1 divides it
pub record Prime (p : ℕ) : Type 0 where
  pub two_le : 2 ≤ p
  pub no_divisor : (d : ℕ) → 2 ≤ d → d < p → p % d ≡ 0 → ⊥

-- 1 where multiplier k puts x and y together in w places, else 0
unfoldable pub collides : ℕ → ℕ → ℕ → ℕ → ℕ → ℕ
unfolding hash_of
collides p w x y k = cond (eqb (hash_of p k w x) (hash_of p k w y)) 1 0

-- k is the least multiplier that passes
pub record Least (test : ℕ → Bool) (p k : ℕ) : Type 0 where
  pub from_one : 1 ≤ k
  pub below : k < p
  pub passes : test k ≡ true
  pub least : (j : ℕ) → 1 ≤ j → j < k → test j ≡ false

pub record Theorems : Type 1 where
  -- Euclid's lemma
  pub euclid : {p : ℕ} → Prime p → (a b : ℕ) → 0 < a → a < p → (a * b) % p ≡ 0 → b % p ≡ 0
  -- the prime of the product, and two that are larger
  pub prime_65537 : Prime 65537
  pub prime_1000003 : Prime 1000003
  pub prime_2147483647 : Prime 2147483647
  -- source 000, lemma 1, for one pair: at most 2 * ((p - 1) / w) multipliers put two codes together
  pub collisions :
      {p : ℕ} → Prime p → (w x y : ℕ) → 0 < w → x < p → y < p → (x ≡ y → ⊥)
      → sum (λ i. collides p w x y (suc i)) (p - 1) ≤ 2 * ((p - 1) / w)
  -- source 000, lemma 1, as a sum over all multipliers: at most n * (n - 1) * ((p - 1) / w) pairs are put together
  pub sum_together :
      {p : ℕ} → Prime p → (w : ℕ) (codes : List ℕ) → 0 < w → Codes p codes
      → sum (λ i. together p (suc i) w codes) (p - 1) + length codes * ((p - 1) / w) ≤ length codes * length codes * ((p - 1) / w)
  -- source 000, lemma 2: some multiplier keeps c at most 3n - 2
  pub blocks_exist :
      {p : ℕ} → Prime p → (codes : List ℕ) → Codes p codes → 0 < length codes
      → (k : ℕ) × (1 ≤ k) × (k < p) × (cells p k codes + 2 ≤ 3 * length codes)
  -- source 000, lemma 3: some multiplier puts m codes in different cells of m * m
  pub cells_exist :
      {p : ℕ} → Prime p → (codes : List ℕ) → Codes p codes
      → (q : ℕ) × (1 ≤ q) × (q < p) × (together p q (length codes * length codes) codes ≡ 0)
  -- the codes of one place are a list of codes
  pub members_codes : (p k w t : ℕ) (codes : List ℕ) → Codes p codes → Codes p (members p k w t codes)
  -- the least multiplier is found where one passes
  pub least_found : (test : ℕ → Bool) (p k : ℕ) → 1 ≤ k → k < p → test k ≡ true → Least test p (least test p)
