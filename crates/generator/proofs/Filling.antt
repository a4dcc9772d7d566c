-- Filling both arrays place by place: what stands in the first i places, and the power of 75 that the next code is made of.
use Prim.Native.Nat.{ℕ, ◌+◌, ◌*◌, ◌/◌, ◌%◌, ◌^◌, ◌<◌, ◌≤◌}
use native.Mathlib.Nat.{mod-lt, div-add-mod'}
use native.Mathlib.Omega.{arith}
use mathlib.Core.List.{List}
use mathlib.Core.Path.{◌≡◌, refl, sym, ap, ◌∙◌}
use lib.Dec.{lit<}
use lib.ListN.{length, set}
use Rattle.hash.specs.code.Contract.{Remainder}
use Rattle.hash.proofs.Primes.{mod_same}
use Rattle.prelude.proofs.Tabulate.{TabulatedTo, tabulated_none, tabulated_kept, tabulated_more, tabulated_all}
use Rattle.generator.specs.TestLoad.{test_code, test_schedule}
use Rattle.generator.specs.code.Places.{LoadFits, LoadFilled}
use Rattle.generator.proofs.Powers.{power_next}
use Rattle.generator.proofs.Load.{schedule_most}

-- both arrays before place i is filled
pub record Filling (n : ℕ) (codes schedules : List ℕ) (i code schedule : ℕ) (codes' schedules' : List ℕ) : Type 0 where
  pub not_past : i ≤ n
  pub last_power : code ≡ (75 ^ i) % 65537
  pub next_schedule : schedule ≡ test_schedule i
  pub codes_filled : TabulatedTo test_code i codes codes'
  pub schedules_filled : TabulatedTo test_schedule i schedules schedules'

-- a schedule by the one before
schedule_after : (i : ℕ) → test_schedule (i + 1) ≡ test_schedule i % 999 + 1
unfolding test_schedule
schedule_after i = ap (λ (r : ℕ). r + 1) (mod_same 999 (i + 1) (i % 999 + 1) 0 (i / 999) (omega (arith, div-add-mod' i 999)))

-- place i: both arrays have it, its schedule is at most 999, and the next code and its schedule fill it
pub record Next (n : ℕ) (codes schedules : List ℕ) (i schedule : ℕ) (codes' schedules' : List ℕ) (next : ℕ) : Type 0 where
  pub codes_room : i < length codes'
  pub schedules_room : i < length schedules'
  pub schedule_most : schedule ≤ 999
  pub filling :
      (after : ℕ) → after ≡ schedule % 999 + 1
      → Filling n codes schedules (i + 1) next after (set codes' i next) (set schedules' i schedule)

module _ {n : ℕ} {codes schedules : List ℕ} (fits : LoadFits n codes schedules) where
  pub filling_none : Filling n codes schedules 0 1 1 codes schedules
  unfolding test_schedule
  filling_none =
      record {
        not_past = omega arith;
        last_power = refl;
        next_schedule = refl;
        codes_filled = tabulated_none test_code codes;
        schedules_filled = tabulated_none test_schedule schedules;
      }

  module _ {i code schedule : ℕ} {codes' schedules' : List ℕ} (l : Filling n codes schedules i code schedule codes' schedules') where
    pub code_below : code < 65537
    code_below = rw l.last_power (mod-lt (75 ^ i) (lit< tt))

    pub next : {next : ℕ} → i < n → Remainder (75 * code) 65537 next → Next n codes schedules i schedule codes' schedules' next
    unfolding test_code
    next {next} h r =
        let is : next ≡ test_code i = r.value ∙ rw l.last_power (power_next 65537 75 i) in
        record {
          codes_room = omega (arith, fits.codes_room, tabulated_kept l.codes_filled);
          schedules_room = omega (arith, fits.schedules_room, tabulated_kept l.schedules_filled);
          schedule_most = rw l.next_schedule (schedule_most i);
          filling = λ after e.
              record {
                not_past = omega arith;
                last_power = is;
                next_schedule = e ∙ rw l.next_schedule (sym (schedule_after i));
                codes_filled = rw is (tabulated_more l.codes_filled (omega (arith, fits.codes_room)));
                schedules_filled = rw l.next_schedule (tabulated_more l.schedules_filled (omega (arith, fits.schedules_room)));
              };
        }

    pub filling_all : n ≤ i → LoadFilled n codes schedules codes' schedules'
    filling_all h =
        let e : i ≡ n = omega (arith, l.not_past) in
        record {
          codes_at_exit = rw e at (tabulated_all l.codes_filled);
          schedules_at_exit = rw e at (tabulated_all l.schedules_filled);
        }
