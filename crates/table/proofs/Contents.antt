-- What is read from words that begin with the table of a list, whatever follows it.
use Prim.Native.Nat.{ℕ, ◌+◌, ◌*◌, ◌<◌, ◌≤◌}
use native.Mathlib.Omega.{arith}
use mathlib.Core.List.{List, ◌++◌, append_assoc}
use mathlib.Core.Logic.{◌⊎◌, inl, inr}
use mathlib.Core.Path.{◌≡◌, refl, sym, ap, ◌∙◌}
use lib.ListN.{length, get_or, take, drop, length-append, take-append-drop}
use Rattle.hash.specs.Hash.{cells, Codes}
use Rattle.hash.specs.Theorems.{Prime}
use Rattle.table.specs.Words.{code_count, cell_count, total_of, total, cell_code, cell_schedule, own_cell}
use Rattle.prelude.specs.Tabulate.{tabulate}
use Rattle.table.specs.TwoLevel.{blocks_multiplier, front_of, front_with, held_at, table_with, cells_of, words_needed, table_of}
use Rattle.prelude.proofs.Tabulate.{tabulate_length, tabulate_head, tabulate_past}
use Rattle.table.proofs.Front.{Fronted, fronted, front_length, front_past, front_of_fronted, own_is}
use Rattle.table.proofs.Held.{Apart, held_same, held_own, held_none, holder}
use Rattle.table.proofs.Own.{listed_own_lt, listed_apart}

-- words that begin with the table of a list
pub record Tabled (p : ℕ) (codes schedules words : List ℕ) : Type 0 where
  pub front : Fronted p (blocks_multiplier p codes) codes words
  pub celled : cell_count words ≡ cells_of p codes
  pub code_held : (i : ℕ) → i < cells_of p codes → cell_code words i ≡ held_at (own_cell p words) codes codes i
  pub schedule_held : (i : ℕ) → i < cells_of p codes → cell_schedule words i ≡ held_at (own_cell p words) codes schedules i
  pub totals : total words ≡ words_needed p codes
  pub whole : words_needed p codes ≤ length words

-- ---- any front, and two runs of c cells

module _ (p : ℕ) (front : List ℕ) (c : ℕ) (codes schedules : List ℕ) where
  with_length : length (table_with p front c codes schedules) ≡ length front + 2 * c
  unfolding table_with
  with_length =
      omega (
        arith,
        length-append front (tabulate (held_at (own_cell p front) codes codes) c ++ tabulate (held_at (own_cell p front) codes schedules) c),
        length-append (tabulate (held_at (own_cell p front) codes codes) c) (tabulate (held_at (own_cell p front) codes schedules) c),
        tabulate_length (held_at (own_cell p front) codes codes) c,
        tabulate_length (held_at (own_cell p front) codes schedules) c,
      )

  with_parts :
      (rest : List ℕ)
      → table_with p front c codes schedules ++ rest
      ≡ front ++ (tabulate (held_at (own_cell p front) codes codes) c ++ (tabulate (held_at (own_cell p front) codes schedules) c ++ rest))
  unfolding table_with
  with_parts rest = simp append_assoc

module _ (p k : ℕ) (codes : List ℕ) (f g : ℕ → ℕ) (c : ℕ) (rest : List ℕ) where
  -- the front of a table before two runs of cells
  abbrev runs : List ℕ
  runs = front_with p k codes ++ (tabulate f c ++ (tabulate g c ++ rest))

  first_run : (n i : ℕ) → n ≡ length codes → i < c → get_or runs (3 + 2 * n + i) 0 ≡ f i
  first_run n i e h =
      ap (λ (m : ℕ). get_or runs (3 + 2 * m + i) 0) e
      ∙ front_past p k codes (tabulate f c ++ (tabulate g c ++ rest)) i
      ∙ tabulate_head f c i (tabulate g c ++ rest) h

  second_run : (n d i : ℕ) → n ≡ length codes → d ≡ c → i < c → get_or runs (3 + 2 * n + d + i) 0 ≡ g i
  second_run n d i e q h =
      let at : 3 + 2 * n + d + i ≡ 3 + 2 * length codes + (c + i) = omega arith in
      ap (λ (m : ℕ). get_or runs m 0) at
      ∙ front_past p k codes (tabulate f c ++ (tabulate g c ++ rest)) (c + i)
      ∙ tabulate_past f c i (tabulate g c ++ rest)
      ∙ tabulate_head g c i rest h

-- ---- the table of a list

module _ (p : ℕ) (codes : List ℕ) where
  pub cells_of_is : cells_of p codes ≡ cells p (blocks_multiplier p codes) codes
  unfolding cells_of
  cells_of_is = refl

  pub needed_is : words_needed p codes ≡ total_of (length codes) (cells_of p codes)
  unfolding words_needed
  needed_is = refl

  pub front_of_is : front_of p codes ≡ front_with p (blocks_multiplier p codes) codes
  unfolding front_of
  front_of_is = refl

  pub front_of_length : length (front_of p codes) ≡ 3 + 2 * length codes
  front_of_length = ap length front_of_is ∙ front_length p (blocks_multiplier p codes) codes

  -- own cells are the same read from any words with this front
  pub own_front :
      (words : List ℕ) → Fronted p (blocks_multiplier p codes) codes words → 0 < length codes
      → (a : ℕ) → own_cell p (front_of p codes) a ≡ own_cell p words a
  own_front words f some a = own_is (front_of_fronted p codes) a some ∙ sym (own_is f a some)

module _ (p : ℕ) (codes schedules : List ℕ) where
  pub table_is : table_of p codes schedules ≡ table_with p (front_of p codes) (cells_of p codes) codes schedules
  unfolding table_of
  table_is = refl

  pub table_length : length (table_of p codes schedules) ≡ words_needed p codes
  table_length =
      ap length table_is
      ∙ with_length p (front_of p codes) (cells_of p codes) codes schedules
      ∙ omega (arith, front_of_length p codes, needed_is p codes)

  module _ (rest : List ℕ) where
    abbrev held : List ℕ → ℕ → ℕ
    held values = held_at (own_cell p (front_of p codes)) codes values

    abbrev table_runs : List ℕ
    table_runs = runs p (blocks_multiplier p codes) codes (held codes) (held schedules) (cells_of p codes) rest

    table_runs_lem : table_of p codes schedules ++ rest ≡ table_runs
    table_runs_lem =
        ap (λ (s : List ℕ). s ++ rest) table_is
        ∙ with_parts p (front_of p codes) (cells_of p codes) codes schedules rest
        ∙ ap (λ (s : List ℕ). s ++ (tabulate (held codes) (cells_of p codes) ++ (tabulate (held schedules) (cells_of p codes) ++ rest))) (front_of_is p codes)

    runs_tabled : Tabled p codes schedules table_runs
    runs_tabled =
        let f : Fronted p (blocks_multiplier p codes) codes table_runs = fronted p (blocks_multiplier p codes) codes _ in
        let c : cell_count table_runs ≡ cells_of p codes = f.celled ∙ sym (cells_of_is p codes) in
        record {
          front = f;
          celled = c;
          code_held = λ i h. first_run p _ codes (held codes) (held schedules) (cells_of p codes) rest (code_count table_runs) i f.counts h
              ∙ held_same (own_cell p (front_of p codes)) (own_cell p table_runs) codes codes i (λ x l. own_front p codes table_runs f (omega arith) (get_or codes x 0));
          schedule_held = λ i h. second_run p _ codes (held codes) (held schedules) (cells_of p codes) rest (code_count table_runs) (cell_count table_runs) i f.counts c h
              ∙ held_same (own_cell p (front_of p codes)) (own_cell p table_runs) codes schedules i (λ x l. own_front p codes table_runs f (omega arith) (get_or codes x 0));
          totals = omega (arith, f.counts, c, needed_is p codes);
          whole = omega (arith, table_length, ap length table_runs_lem, length-append (table_of p codes schedules) rest);
        }

  pub tabled : (words : List ℕ) → take (words_needed p codes) words ≡ table_of p codes schedules → Tabled p codes schedules words
  tabled words e =
      rw (sym (take-append-drop (words_needed p codes) words) ∙ ap (λ (s : List ℕ). s ++ drop (words_needed p codes) words) e ∙ table_runs_lem (drop (words_needed p codes) words))
      (runs_tabled (drop (words_needed p codes) words))

-- ---- one cell

-- cell i is that of the code with index x, and holds it with its schedule
pub record Filled (p : ℕ) (codes schedules words : List ℕ) (i x : ℕ) : Type 0 where
  pub in_list : x < length codes
  pub its_own : own_cell p words (get_or codes x 0) ≡ i
  pub code : cell_code words i ≡ get_or codes x 0
  pub schedule : cell_schedule words i ≡ get_or schedules x 0

-- cell i is nobody's, and empty
pub record Empty (words : List ℕ) (i : ℕ) : Type 0 where
  pub no_code : cell_code words i ≡ 0
  pub no_schedule : cell_schedule words i ≡ 0

module _
    {p : ℕ} (prime : Prime p) (codes schedules : List ℕ) (valid : Codes p codes) (same : length schedules ≡ length codes)
    (words : List ℕ) (t : Tabled p codes schedules words)
  where
    -- the cell of a listed code
    pub filled_own : (x : ℕ) → x < length codes → Filled p codes schedules words (own_cell p words (get_or codes x 0)) x
    filled_own x h =
        let apart : Apart (own_cell p words) codes = listed_apart prime (blocks_multiplier p codes) codes valid words t.front in
        let l : own_cell p words (get_or codes x 0) < cells_of p codes =
        rw (cells_of_is p codes) (listed_own_lt prime (blocks_multiplier p codes) codes valid words t.front x h) in
        record {
          in_list = h;
          its_own = refl;
          code = t.code_held _ l ∙ held_own (own_cell p words) codes codes refl apart x h;
          schedule = t.schedule_held _ l ∙ held_own (own_cell p words) codes schedules same apart x h;
        }

    pub filled_or_empty : (i : ℕ) → i < cells_of p codes → ((x : ℕ) × Filled p codes schedules words i x) ⊎ Empty words i
    filled_or_empty i h =
        elim (holder (own_cell p words) codes codes i refl) [
          | inl r ↦ inl (r.index, rw r.its_own at (filled_own r.index r.in_list))
          | inr none ↦
              inr
              (record {
                no_code = t.code_held i h ∙ held_none (own_cell p words) codes codes i none;
                no_schedule = t.schedule_held i h ∙ held_none (own_cell p words) codes schedules i none;
              })
        ]
