-- Listings to compare by (document 01, "The program that lists"): that of P5, whole, and those of an empty table, an empty file and one that
-- is not whole words. Statements only.
use Rattle.std.specs.Prelude.{ℕ, List, [], ◌∷◌, ◌≡◌}
use Rattle.listing.specs.Listing.{listing_of}

-- 5 7 1, 0 1 1 5 6, 1 1 1 1 1, 20 0 17 0 7 8 4, 15 0 14 0 12 13 11
abbrev pub file5 : List ℕ
file5 =
    5 ∷ 0 ∷ 0 ∷ 0 ∷ 7 ∷ 0 ∷ 0 ∷ 0 ∷ 1 ∷ 0 ∷ 0 ∷ 0
    ∷ 0 ∷ 0 ∷ 0 ∷ 0 ∷ 1 ∷ 0 ∷ 0 ∷ 0 ∷ 1 ∷ 0 ∷ 0 ∷ 0 ∷ 5 ∷ 0 ∷ 0 ∷ 0 ∷ 6 ∷ 0 ∷ 0 ∷ 0
    ∷ 1 ∷ 0 ∷ 0 ∷ 0 ∷ 1 ∷ 0 ∷ 0 ∷ 0 ∷ 1 ∷ 0 ∷ 0 ∷ 0 ∷ 1 ∷ 0 ∷ 0 ∷ 0 ∷ 1 ∷ 0 ∷ 0 ∷ 0
    ∷ 20 ∷ 0 ∷ 0 ∷ 0 ∷ 0 ∷ 0 ∷ 0 ∷ 0 ∷ 17 ∷ 0 ∷ 0 ∷ 0 ∷ 0 ∷ 0 ∷ 0 ∷ 0 ∷ 7 ∷ 0 ∷ 0 ∷ 0 ∷ 8 ∷ 0 ∷ 0 ∷ 0 ∷ 4 ∷ 0 ∷ 0 ∷ 0
    ∷ 15 ∷ 0 ∷ 0 ∷ 0 ∷ 0 ∷ 0 ∷ 0 ∷ 0 ∷ 14 ∷ 0 ∷ 0 ∷ 0 ∷ 0 ∷ 0 ∷ 0 ∷ 0 ∷ 12 ∷ 0 ∷ 0 ∷ 0 ∷ 13 ∷ 0 ∷ 0 ∷ 0 ∷ 11 ∷ 0 ∷ 0 ∷ 0 ∷ []

-- "codes 5 cells 7 multiplier 1", "4 11", "7 12", "8 13", "17 14", "20 15"
abbrev pub text5 : List ℕ
text5 =
    99 ∷ 111 ∷ 100 ∷ 101 ∷ 115 ∷ 32 ∷ 53 ∷ 32 ∷ 99 ∷ 101 ∷ 108 ∷ 108 ∷ 115 ∷ 32 ∷ 55 ∷ 32 ∷ 109 ∷ 117 ∷ 108 ∷ 116 ∷ 105 ∷ 112 ∷ 108 ∷ 105 ∷ 101 ∷ 114 ∷ 32 ∷ 49 ∷ 10
    ∷ 52 ∷ 32 ∷ 49 ∷ 49 ∷ 10
    ∷ 55 ∷ 32 ∷ 49 ∷ 50 ∷ 10
    ∷ 56 ∷ 32 ∷ 49 ∷ 51 ∷ 10
    ∷ 49 ∷ 55 ∷ 32 ∷ 49 ∷ 52 ∷ 10
    ∷ 50 ∷ 48 ∷ 32 ∷ 49 ∷ 53 ∷ 10 ∷ []

pub record Printed : Type 0 where
  pub P5 : listing_of 65537 2048 file5 ≡ text5
  -- the table 0 0 1: "codes 0 cells 0 multiplier 1"
  pub empty_table :
      listing_of 65537 2048 (0 ∷ 0 ∷ 0 ∷ 0 ∷ 0 ∷ 0 ∷ 0 ∷ 0 ∷ 1 ∷ 0 ∷ 0 ∷ 0 ∷ [])
      ≡ 99 ∷ 111 ∷ 100 ∷ 101 ∷ 115 ∷ 32 ∷ 48 ∷ 32 ∷ 99 ∷ 101 ∷ 108 ∷ 108 ∷ 115 ∷ 32 ∷ 48 ∷ 32 ∷ 109 ∷ 117 ∷ 108 ∷ 116 ∷ 105 ∷ 112 ∷ 108 ∷ 105 ∷ 101 ∷ 114 ∷ 32 ∷ 49 ∷ 10 ∷ []
  -- "refused 11 0"
  pub empty_file : listing_of 65537 2048 [] ≡ 114 ∷ 101 ∷ 102 ∷ 117 ∷ 115 ∷ 101 ∷ 100 ∷ 32 ∷ 49 ∷ 49 ∷ 32 ∷ 48 ∷ 10 ∷ []
  -- "refused 62 0"
  pub three_bytes : listing_of 65537 2048 (0 ∷ 0 ∷ 0 ∷ []) ≡ 114 ∷ 101 ∷ 102 ∷ 117 ∷ 115 ∷ 101 ∷ 100 ∷ 32 ∷ 54 ∷ 50 ∷ 32 ∷ 48 ∷ 10 ∷ []
