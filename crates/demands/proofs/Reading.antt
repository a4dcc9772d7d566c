-- What is proved of tables from anywhere, for any prime and limit: the pairs read from a well-formed table are a valid list, by rising code, and
-- are listed exactly where a lookup finds them. A pair stands in the list of pairs where it stands in the lists of codes and schedules.
use Prim.Native.Nat.{ℕ, ◌<◌, ◌≤◌}
use native.Mathlib.Omega.{arith}
use mathlib.Core.List.{List, [], ◌∷◌, Memᴰ}
use mathlib.Core.Logic.{◌↔◌, ◌⊎◌, inl, inr}
use mathlib.Core.Path.{◌≡◌, ap, ◌∙◌}
use borrow.Author.Tests.{le-ltb}
use lib.ListN.{length}
use Rattle.hash.specs.Hash.{Codes}
use Rattle.prelude.specs.Answers.{Answer, given, absent, filled}
use Rattle.table.specs.Words.{code_count, cell_schedule}
use Rattle.lookup.specs.Lookup.{lookup_of}
use Rattle.audit.specs.Check.{check_of}
use Rattle.audit.specs.WellFormed.{WellFormed}
use Rattle.prelude.specs.Pairs.{Pair, codes_of, schedules_of}
use Rattle.reader.specs.Pairs.{pairs_in, pairs_of}
use Rattle.audit.proofs.Lookups.{lookup_found, lookup_absent}
use Rattle.audit.proofs.WellFormed.{check_exactly}
use Rattle.reader.proofs.PairLaws as Pairs
use Rattle.lists.specs.Valid.{Valid}
use Rattle.editor.proofs.Reordered.{codes_long, same_long, pair_at, at_pair}
use Rattle.demands.specs.Lists.{Listed, FoundWith}
use Rattle.demands.specs.Theorems.{Reading}
use Rattle.demands.proofs.RightAnswer.{right_cases}
use Rattle.demands.proofs.Settle.{looked_at_eight, settle}

-- ---- a pair of a list, by index and by membership

pub mem_listed : {xs : List Pair} {r : Pair} → Memᴰ r xs → Listed (codes_of xs) (schedules_of xs) r.code r.schedule
mem_listed m =
    let (i, l, code, schedule) = at_pair m in
    record { index = i; in_list = l; code_there = code; schedule_there = schedule }

pub listed_mem :
    (xs : List Pair) {a s : ℕ} → Listed (codes_of xs) (schedules_of xs) a s → Memᴰ (record { code = a; schedule = s }) xs
listed_mem xs l = rw (l.code_there, l.schedule_there) at (pair_at xs l.index l.in_list)

-- different codes with schedules in range are a valid list
pub pairs_valid :
    {p limit : ℕ} (xs : List Pair) → length (codes_of xs) ≤ limit → Codes p (codes_of xs)
    → ((r : Pair) → Memᴰ r xs → (1 ≤ r.schedule) × (r.schedule ≤ 999)) → Valid p limit (codes_of xs) (schedules_of xs)
pairs_valid xs few codes range =
    record {
      parallel = same_long xs;
      few = few;
      codes_valid = codes;
      schedules_from_one = λ i l. (range _ (pair_at xs i l)).0;
      schedules_to_999 = λ i l. (range _ (pair_at xs i l)).1;
    }

-- ---- the pairs of a table

module _ {p limit : ℕ} {words : List ℕ} (f : WellFormed p limit words) where
  pub pairs_number : length (codes_of (pairs_in words)) ≡ code_count words
  pairs_number = codes_long (pairs_in words) ∙ Pairs.pairs_length f

  pub pairs_exactly :
      (a s : ℕ) → FoundWith p limit words a s ↔ Listed (codes_of (pairs_in words)) (schedules_of (pairs_in words)) a s
  pairs_exactly a s = (λ (i, e). mem_listed (Pairs.found_pairs f i e), λ l. Pairs.pairs_found f (listed_mem (pairs_in words) l))

  -- so they can be built from again
  pub table_valid : Valid p limit (codes_of (pairs_in words)) (schedules_of (pairs_in words))
  table_valid = pairs_valid (pairs_in words) (omega (arith, pairs_number, f.few_codes)) (Pairs.pairs_codes f) (λ r. Pairs.pair_schedule f)

-- a code in range that no pair has is absent
pub found_or_absent :
    {p limit : ℕ} {words : List ℕ} → WellFormed p limit words → (a : ℕ) → 1 ≤ a → a < p
    → ((s : ℕ) × FoundWith p limit words a s) ⊎ (lookup_of p limit words a ≡ absent)
found_or_absent {words = words} f a from below =
    elim (right_cases (codes_of (pairs_in words)) (schedules_of (pairs_in words)) words a (table_valid f).parallel) [
      | inl r ↦ inl (r.schedule, (pairs_exactly f a r.schedule).1 r.listed)
      | inr r ↦
          inr
          (lookup_absent f a from below
          (λ i l e.
          let there = (pairs_exactly f a (cell_schedule words i)).0 (i, lookup_found f a from below i l e) in
          r.nowhere there.index there.in_list there.code_there))
    ]

-- an accepted table is read back
pub read_back :
    (p limit : ℕ) (words codes schedules values : List ℕ) → check_of p limit words ≡ given values → code_count words ≤ length codes
    → code_count words ≤ length schedules → pairs_of p limit words codes schedules ≡ given (code_count words ∷ [])
unfolding pairs_of
read_back p limit words codes schedules values e hc hs =
    rw (e, le-ltb (length codes) (code_count words) hc, le-ltb (length schedules) (code_count words) hs)

pub reading : Reading
reading =
    record {
      check_exactly = check_exactly 65537 2048;
      read_back = λ words codes schedules answer codes' schedules' accept hc hs read.
          let e = read_back 65537 2048 words codes schedules _ accept hc hs in (
            read.answers ∙ e,
            read.codes_at_exit ∙ ap (λ (r : Answer). filled r (codes_of (pairs_in words)) codes) e,
            read.schedules_at_exit ∙ ap (λ (r : Answer). filled r (schedules_of (pairs_in words)) schedules) e,
          );
      pairs_number = λ words e. pairs_number ((check_exactly 65537 2048 words).0 e);
      pairs_rise = λ words e. Pairs.pairs_rise ((check_exactly 65537 2048 words).0 e);
      pairs_exactly = λ words e. pairs_exactly ((check_exactly 65537 2048 words).0 e);
      found_or_absent = λ words e a from to. found_or_absent ((check_exactly 65537 2048 words).0 e) a from (omega arith);
      eight_at_most = looked_at_eight 65537;
      eight_settle = settle 65537 2048;
    }
