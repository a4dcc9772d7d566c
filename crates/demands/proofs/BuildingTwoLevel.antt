-- Words that begin with the table of a valid list are the two-level table of source 000 with the least multipliers: what is read from them
-- (`Tabled`) is what the existence of multipliers gives (`blocks_least`, `cells_least`).
use Prim.Native.Nat.{ℕ, ◌*◌, ◌<◌}
use native.Mathlib.Omega.{arith}
use mathlib.Core.List.{List, [], ◌∷◌}
use mathlib.Core.Logic.{inl, inr}
use mathlib.Core.Path.{◌≡◌, refl, sym, ap, ◌∙◌}
use lib.ListN.{length, get_or}
use Rattle.hash.specs.Hash.{load, members, sum, cells}
use Rattle.hash.proofs.Members.{members_codes}
use Rattle.hash.proofs.Primes.{prime_65537}
use Rattle.table.specs.Words.{multiplier, own_cell}
use Rattle.table.specs.TwoLevel.{blocks_multiplier}
use Rattle.table.proofs.Front.{start_first, start_next, Fronted}
use Rattle.table.proofs.Chosen.{blocks_least, cells_least, few_cells}
use Rattle.table.proofs.Contents.{Tabled, Filled, filled_own, filled_or_empty}
use Rattle.table.proofs.Own.{listed_own_lt}
use Rattle.lists.specs.Valid.{Valid}
use Rattle.demands.specs.Theorems.{TwoLevelTable}

no_codes : (p : ℕ) (codes : List ℕ) → length codes ≡ 0 → blocks_multiplier p codes ≡ 1
unfolding blocks_multiplier
no_codes p [] none = refl
no_codes p (a ∷ s) none = absurd (omega arith)

cells_are : (p k : ℕ) (codes : List ℕ) → cells p k codes ≡ sum (λ j. load p k (length codes) j codes * load p k (length codes) j codes) (length codes)
unfolding cells
cells_are p k codes = refl

module _
    (codes schedules : List ℕ) (valid : Valid 65537 2048 codes schedules) (words : List ℕ) (t : Tabled 65537 codes schedules words)
  where
    abbrev f : Fronted 65537 (blocks_multiplier 65537 codes) codes words
    f = t.front

    k_at : multiplier words ≡ blocks_multiplier 65537 codes
    k_at = f.by

    pub two_level : TwoLevelTable codes schedules words
    two_level =
        record {
          blocks = f.counts;
          k_least = λ some. rw k_at (blocks_least prime_65537 codes valid.codes_valid some);
          k_of_none = λ none. k_at ∙ no_codes 65537 codes none;
          first_start = λ some. f.starts 0 some ∙ start_first 65537 _ codes;
          squares = λ j l. rw k_at (omega (arith, f.starts j l, f.ends j l, start_next 65537 (blocks_multiplier 65537 codes) codes j));
          cells_sum = f.celled ∙ ap (λ (k : ℕ). cells 65537 k codes) (sym k_at) ∙ cells_are 65537 (multiplier words) codes;
          few_cells = λ some. omega (arith, t.celled, few_cells prime_65537 codes valid.codes_valid some);
          q_least = λ j l.
              rw (k_at, f.block_by j l)
              (cells_least prime_65537 (members 65537 (blocks_multiplier 65537 codes) (length codes) j codes) (members_codes 65537 (blocks_multiplier 65537 codes) (length codes) j codes valid.codes_valid));
          own_cell_lem = λ x l. rw f.celled (listed_own_lt prime_65537 (blocks_multiplier 65537 codes) codes valid.codes_valid words f x l);
          code_there = λ x l. (filled x l).code;
          schedule_there = λ x l. (filled x l).schedule;
          empty_cell = λ i l nobody.
              elim (filled_or_empty prime_65537 codes schedules valid.codes_valid valid.parallel words t i (omega (arith, t.celled))) [
                | inl r ↦ absurd (nobody r.0 r.1.in_list r.1.its_own)
                | inr e ↦ (e.no_code, e.no_schedule)
              ];
        }
      where
        filled : (x : ℕ) → x < length codes → Filled 65537 codes schedules words (own_cell 65537 words (get_or codes x 0)) x
        filled x l = filled_own prime_65537 codes schedules valid.codes_valid valid.parallel words t x l
