-- A digest of numbers: one number for a whole list, which depends on the order.
use Rattle.std.specs.Prelude.{ℕ, ◌+◌, ◌*◌, ◌%◌, List, [], ◌∷◌, ◌≡◌}
use Rattle.std.specs.List.{AllZip}

-- the digest d of the numbers so far, taken on over those that follow; the modulus is the greatest prime below 2^32
unfoldable pub digest_after : ℕ → List ℕ → ℕ
digest_after d [] = d
digest_after d (x ∷ rest) = digest_after ((d * 65599 + x + 1) % 4294967291) rest

unfoldable pub digest_of : List ℕ → ℕ
digest_of numbers = digest_after 0 numbers

-- r is the digest of the numbers that elements of any type are converted to
pub record Digested {T : Type 0} (converts : T → ℕ → Type 0) (elements : List T) (r : ℕ) : Type 0 where
  pub numbers : List ℕ
  pub converted : AllZip converts elements numbers
  pub digest : r ≡ digest_of numbers
