-- How long each line is, and the lines of pairs one by one.
use Prim.Native.Nat.{ℕ, zero, suc, ◌+◌, ◌*◌, ◌<◌, ◌≤◌}
use mathlib.Core.List.{List, [], ◌∷◌, ◌++◌}
use mathlib.Core.Logic.{◌⊎◌, inl, inr}
use mathlib.Core.Path.{◌≡◌, refl, ap}
use native.Mathlib.Numerals.{add-one}
use native.Mathlib.Omega.{arith}
use lib.ListN.{length, drop, get_or, length-append}
use lib.Seq.{drop-cons}
use Rattle.prelude.specs.Pairs.{Pair, codes_of, schedules_of, paired}
use Rattle.decimal.specs.Decimal.{decimal}
use Rattle.lines.specs.Lines.{pair_line, pair_lines, refused_line}
use Rattle.decimal.proofs.Decimal.{decimal_few}

pub refused_length :
    (number value : ℕ) → length (refused_line number value) ≡ 10 + length (decimal number) + length (decimal value)
unfolding refused_line
refused_length number value = simp length-append (omega arith)

-- ten digits at most for each number
pub refused_fits : (number value : ℕ) {room : ℕ} → 30 ≤ room → 0 + length (refused_line number value) ≤ room
refused_fits number value h = omega (arith, refused_length number value, decimal_few number, decimal_few value)

module _ (separator : ℕ) where
  pub pair_length :
      (code schedule : ℕ) → length (pair_line separator code schedule) ≡ 2 + length (decimal code) + length (decimal schedule)
  unfolding pair_line
  pair_length code schedule = simp length-append (omega arith)

  -- the lines of the pairs from i on
  pub lines_at :
      (codes schedules : List ℕ) (i : ℕ) → i < length codes → length schedules ≡ length codes
      → pair_lines separator (paired (drop i codes) (drop i schedules))
      ≡ pair_line separator (get_or codes i 0) (get_or schedules i 0) ++ pair_lines separator (paired (drop (i + 1) codes) (drop (i + 1) schedules))
  unfolding pair_lines paired
  lines_at codes schedules i h e = rw (add-one i, drop-cons codes i 0 h, drop-cons schedules i 0 (omega arith))

  -- a line and those after it take no more bytes than all lines
  pub line_fits :
      (codes schedules : List ℕ) (i : ℕ) → i < length codes → length schedules ≡ length codes
      → length (pair_line separator (get_or codes i 0) (get_or schedules i 0))
      + length (pair_lines separator (paired (drop (i + 1) codes) (drop (i + 1) schedules)))
      ≤ length (pair_lines separator (paired codes schedules))
  line_fits codes schedules zero h e = omega (arith, simp length-append at (ap length (lines_at codes schedules 0 h e)))
  line_fits codes schedules (suc i) h e =
      omega (
        arith,
        rw add-one at (line_fits codes schedules i (omega arith) e),
        simp length-append at (ap length (lines_at codes schedules (suc i) h e)),
      )

  -- ten digits at most for each number
  pub lines_few : (pairs : List Pair) → length (pair_lines separator pairs) ≤ 22 * length pairs
  unfolding pair_lines
  lines_few [] = omega arith
  lines_few (r ∷ pairs) =
      rw (length-append, pair_length) (omega (arith, decimal_few r.code, decimal_few r.schedule, lines_few pairs))

pub paired_length : (codes schedules : List ℕ) → length (paired codes schedules) ≤ length codes
unfolding paired
paired_length [] schedules = omega arith
paired_length (a ∷ codes) [] = omega arith
paired_length (a ∷ codes) (s ∷ schedules) = omega (arith, paired_length codes schedules)

-- pairs from two arrays, while there is one in both
pub paired_more :
    {codes schedules : List ℕ} {code schedule : ℕ} {others rest : List ℕ} → codes ≡ code ∷ others → schedules ≡ schedule ∷ rest
    → paired codes schedules ≡ record { code = code; schedule = schedule } ∷ paired others rest
unfolding paired
paired_more e f = rw (e, f)

pub paired_none : (codes schedules : List ℕ) → (length codes ≡ 0) ⊎ (length schedules ≡ 0) → paired codes schedules ≡ []
unfolding paired
paired_none [] schedules h = refl
paired_none (a ∷ codes) [] h = refl
paired_none (a ∷ codes) (s ∷ schedules) (inl h) = absurd (omega arith)
paired_none (a ∷ codes) (s ∷ schedules) (inr h) = absurd (omega arith)

-- of the bytes of the lines of all pairs `sum` are counted, and those of some pairs are left
pub record Counted (pairs : List Pair) (sum : ℕ) (rest : List Pair) : Type 0 where
  pub left : (separator : ℕ) → sum + length (pair_lines separator rest) ≡ length (pair_lines separator pairs)

pub counted_more :
    {pairs : List Pair} {sum : ℕ} {r : Pair} {rest : List Pair} → Counted pairs sum (r ∷ rest) → {m n : ℕ} → m ≡ length (decimal r.code)
    → n ≡ length (decimal r.schedule) → Counted pairs (sum + (2 + m + n)) rest
unfolding pair_lines
counted_more f p q = record { left = λ separator. let next = rw (length-append, pair_length) at (f.left separator) in omega (arith, next, p, q) }

pub counted_all : {pairs : List Pair} {sum : ℕ} → Counted pairs sum [] → (separator : ℕ) → sum ≡ length (pair_lines separator pairs)
unfolding pair_lines
counted_all f separator = omega (arith, f.left separator)

-- at most 22 bytes a line
pub counted_few :
    (codes schedules : List ℕ) {sum : ℕ} {rest : List Pair} → Counted (paired codes schedules) sum rest → length codes ≤ 65536 → sum ≤ 1441792
counted_few codes schedules f h = omega (arith, f.left 0, lines_few 0 (paired codes schedules), paired_length codes schedules)

-- pairs taken apart into two arrays and put together again
pub paired_same : (pairs : List Pair) → paired (codes_of pairs) (schedules_of pairs) ≡ pairs
unfolding paired
paired_same [] = refl
paired_same (r ∷ pairs) = ap (λ (rest : List Pair). r ∷ rest) (paired_same pairs)
