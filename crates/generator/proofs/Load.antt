-- A load is a list of codes with schedules from 1 to 999, of any length up to 65,536: 75 to the power 32,768 is -1 modulo 65,537, so the 65,536 powers of 75
-- from the first on are different.
use Prim.Native.Nat.{ℕ, zero, suc, ◌+◌, ◌^◌, ◌<◌, ◌≤◌}
use native.Mathlib.Nat.{mod-lt}
use native.Mathlib.Omega.{arith}
use mathlib.Core.List.Memᴰ
use mathlib.Core.List.{List, Memᴰ}
use mathlib.Core.Path.{◌≡◌, refl, sym, ◌∙◌}
use lib.Dec.{lit<}
use lib.ListN.{length, get_or}
use Rattle.hash.specs.Hash.{Codes}
use Rattle.hash.proofs.Primes.{prime_65537}
use Rattle.hash.proofs.Members.{mem_at, at_mem}
use Rattle.hash.proofs.Orders.{nothing_missed}
use Rattle.prelude.specs.Tabulate.{tabulate}
use Rattle.prelude.proofs.Tabulate.{tabulate_length, tabulate_at}
use Rattle.generator.specs.TestLoad.{test_code, test_schedule, test_codes, test_schedules}
use Rattle.generator.proofs.Powers.{power_positive, powers_differ}

test_code_positive : (i : ℕ) → 0 < test_code i
unfolding test_code
test_code_positive i = power_positive prime_65537 (lit< tt) 75 (lit< tt) (lit< tt) (i + 1)

test_code_below : (i : ℕ) → test_code i < 65537
unfolding test_code
test_code_below i = mod-lt (75 ^ (i + 1)) (lit< tt)

test_codes_differ : (i j : ℕ) → i < j → j < 65536 → test_code i ≡ test_code j → ⊥
unfolding test_code
test_codes_differ i j lt h e = powers_differ prime_65537 (lit< tt) 75 (lit< tt) (lit< tt) 15 (i + 1) (j + 1) refl (omega arith) (omega arith) e

pub test_codes_lem : (n : ℕ) → n ≤ 65536 → Codes 65537 (test_codes n)
test_codes_lem n most =
    record {
      positive = λ i h. rw (at i h) (test_code_positive i);
      below = λ i h. rw (at i h) (test_code_below i);
      different = λ i j lt h e. test_codes_differ i j lt (omega (arith, tabulate_length test_code n)) (sym (at i (omega arith)) ∙ e ∙ at j h);
    }
  where
    at : (i : ℕ) → i < length (test_codes n) → get_or (test_codes n) i 0 ≡ test_code i
    at i h = tabulate_at test_code n i (omega (arith, tabulate_length test_code n))

pub test_schedules_from_one : (n i : ℕ) → i < n → 1 ≤ get_or (test_schedules n) i 0
unfolding test_schedule
test_schedules_from_one n i h = rw (tabulate_at test_schedule n i h) (omega arith)

pub schedule_most : (i : ℕ) → test_schedule i ≤ 999
unfolding test_schedule
schedule_most i = omega (arith, mod-lt i {m = 999} (lit< tt))

pub test_schedules_to_999 : (n i : ℕ) → i < n → get_or (test_schedules n) i 0 ≤ 999
test_schedules_to_999 n i h = rw (tabulate_at test_schedule n i h) (schedule_most i)

-- ---- every code

-- n codes from 1 to n have each of them
each_code : (n : ℕ) (codes : List ℕ) → Codes (suc n) codes → length codes ≡ n → (a : ℕ) → 1 ≤ a → a ≤ n → (i : ℕ) × (i < n) × (get_or codes i 0 ≡ a)
each_code n codes c e a from to =
    let (i, h, is) = at_mem (nothing_missed codes (tabulate suc n) c.different within (omega (arith, tabulate_length suc n)) a (there a from to)) in
    (i, omega arith, is)
  where
    there : (a : ℕ) → 1 ≤ a → a ≤ n → Memᴰ a (tabulate suc n)
    there zero from to = absurd (omega arith)
    there (suc a) from to =
        Memᴰ.cast (sym (tabulate_at suc n a (omega arith))) (mem_at (tabulate suc n) a (omega (arith, tabulate_length suc n)))

    within : (a : ℕ) → Memᴰ a codes → Memᴰ a (tabulate suc n)
    within a m = let (i, h, is) = at_mem m in there a (omega (arith, c.positive i h)) (omega (arith, c.below i h))

pub every_code : (a : ℕ) → 1 ≤ a → a ≤ 65536 → (i : ℕ) × (i < 65536) × (test_code i ≡ a)
every_code a from to =
    let (i, h, is) = each_code 65536 (test_codes 65536) (test_codes_lem 65536 (omega arith)) (tabulate_length test_code 65536) a from to in
    (i, h, sym (tabulate_at test_code 65536 i h) ∙ is)
