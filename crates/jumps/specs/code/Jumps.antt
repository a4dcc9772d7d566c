-- Multipliers that are passed over: each of them puts more pairs of codes together than it may.
use Rattle.std.specs.Prelude.{ℕ, min, ◌+◌, ◌*◌, ◌-◌, ◌%◌, ◌<◌, ◌≤◌, Bool, cond, List, [], ◌∷◌, eqb, ltb, leb, length, get_or}
use Rattle.hash.specs.Hash.{hash_of, together, Codes}
use Rattle.prelude.specs.Limits.{few, room}
use Rattle.prelude.specs.Tabulate.{tabulate}
use Rattle.jumps.specs.declared.runs.Run.{Run}

-- every multiplier from k on and before r puts more than `most` pairs of codes together in w places
pub record Passed (p w most : ℕ) (codes : List ℕ) (k r : ℕ) : Type 0 where
  pub from : k ≤ r
  pub over : (j : ℕ) → k ≤ j → j < r → most < together p j w codes

-- how many numbers of a list are x, and how many pairs of its numbers are equal
unfoldable pub equals : ℕ → List ℕ → ℕ
equals x [] = 0
equals x (y ∷ s) = cond (eqb y x) 1 0 + equals x s

unfoldable pub equal_pairs : List ℕ → ℕ
equal_pairs [] = 0
equal_pairs (x ∷ s) = equals x s + equal_pairs s

-- A code's residue s for the step of a run of multipliers k, k + g, .. counts as a step up, or down by p - s where that is less. It goes straight on up to
-- `reach` steps where its residue for k neither passes p nor falls below 0.
unfoldable pub straight : ℕ → ℕ → ℕ → ℕ → Bool
straight p reach r s = cond (leb s (p - s)) (ltb (r + reach * s) p) (leb (reach * (p - s)) r)

-- it wraps at most once
unfoldable pub once : ℕ → ℕ → ℕ → ℕ → Bool
once p reach r s = cond (leb s (p - s)) (ltb (r + reach * s) (2 * p)) (leb (reach * (p - s)) (p + r))

-- it wraps at most so many times: with none it goes straight on
unfoldable pub wraps_at_most : ℕ → ℕ → ℕ → ℕ → ℕ → Bool
wraps_at_most wraps p reach r s = cond (leb s (p - s)) (ltb (r + reach * s) (wraps * p + p)) (leb (reach * (p - s)) (wraps * p + r))

-- how far each step moves its place
unfoldable pub turn : ℕ → ℕ → ℕ → ℕ
turn p w s = cond (leb s (p - s)) (s % w) ((w - (p - s) % w) % w)

-- from which place it goes on by the same moves once it has wrapped
unfoldable pub wrapped : ℕ → ℕ → ℕ → ℕ → ℕ
wrapped p w r s = cond (leb s (p - s)) ((r % w + (w - p % w)) % w) ((r % w + p % w) % w)

-- What tells two codes apart that do not stay together: the place and how it moves, where the code goes straight on, and otherwise a number that no other
-- code has. In a run of one multiplier the place alone.
unfoldable pub key_of : Run → ℕ → ℕ → ℕ
key_of run i a =
    let p = run.prime in
    let s = (run.step * a) % p in
    cond (straight p run.reach ((run.first * a) % p) s)
    (hash_of p run.first run.places a * 65536 + cond (eqb run.reach 0) 0 (turn p run.places s))
    (2147483648 + i)

unfoldable pub keys_of : Run → List ℕ → List ℕ
keys_of run codes = tabulate (λ i. key_of run i (get_or codes i 0)) (length codes)

-- Of a code whose own key tells that it does not go straight on: with how many that do it is together throughout, if it wraps once. Before the wrap these
-- are some, after it others: the fewer of them.
unfoldable pub company_of : Run → List ℕ → ℕ → ℕ → ℕ
company_of run keys own a =
    let p = run.prime in
    let w = run.places in
    let r = (run.first * a) % p in
    let s = (run.step * a) % p in
    cond (ltb own 2147483648) 0
    (cond (once p run.reach r s)
    (min (equals (r % w * 65536 + turn p w s) keys) (equals (wrapped p w r s * 65536 + turn p w s) keys))
    0)

-- the same of all codes, by their own keys
unfoldable pub companies : Run → List ℕ → List ℕ → List ℕ → ℕ
companies run keys [] codes = 0
companies run keys (x ∷ s) [] = 0
companies run keys (x ∷ s) (a ∷ codes) = company_of run keys x a + companies run keys s codes

-- what every run by a step asks: the places are few enough for a key
pub record Runs (run : Run) (codes : List ℕ) : Type 0 where
  pub valid : Codes run.prime codes
  pub short : length codes ≤ few
  pub bounded : run.most ≤ room
  pub some_places : 0 < run.places
  pub few_places : run.places ≤ 32768
  pub forward : 0 < run.step
  pub step_below : run.step < run.prime

-- the last multiplier of a run by steps of g is below the prime
abbrev pub Ends : Run → ℕ → Type 0
Ends run g = run.first + run.reach * g < run.prime

-- the run from another multiplier on, by another step, or of another reach
abbrev pub run_from : Run → ℕ → ℕ → ℕ → Run
run_from run g k reach = record { prime = run.prime; places = run.places; most = run.most; step = g; first = k; reach = reach }

-- the first r multipliers k, k + g, .. put more than the most pairs together; they are among those of the run
pub record Fail (run : Run) (g : ℕ) (codes : List ℕ) (r : ℕ) : Type 0 where
  pub within : r ≤ run.reach + 1
  pub over : (j : ℕ) → j < r → run.most < together run.prime (run.first + j * g) run.places codes
