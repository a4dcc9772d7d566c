-- Where the glass lies: the cell of a code that is found, in the words and in what is read back.
use Prim.Native.Nat.{ℕ, ◌<◌}
use native.Mathlib.Omega.{arith}
use mathlib.Core.List.{List, [], ◌∷◌}
use mathlib.Core.Logic.{◌↔◌}
use mathlib.Core.Path.{◌≡◌, sym, ◌∙◌, ap}
use Rattle.prelude.specs.Answers.{given}
use Rattle.prelude.specs.Pairs.{codes_of, schedules_of}
use Rattle.table.specs.Words.{cell_count, cell_code}
use Rattle.lookup.specs.Lookup.{lookup_of}
use Rattle.lookup.proofs.Tells.{own_cell_lem, stands_there}
use Rattle.audit.specs.WellFormed.{WellFormed}
use Rattle.audit.proofs.Lookups.{lookup_range, lookup_found}
use Rattle.audit.proofs.WellFormed.{check_exactly}
use Rattle.reader.specs.Pairs.{pairs_in}
use Rattle.demands.specs.Lists.{Listed}
use Rattle.demands.specs.Theorems.{Cells}
use Rattle.demands.proofs.Reading.{pairs_exactly}

where_read :
    {p limit : ℕ} {words : List ℕ} → WellFormed p limit words → (a s i : ℕ)
    → (lookup_of p limit words a ≡ given (s ∷ i ∷ []))
    ↔ (Listed (codes_of (pairs_in words)) (schedules_of (pairs_in words)) a s × (i < cell_count words) × (cell_code words i ≡ a))
where_read {p} {limit} {words} f a s i = (
  λ e.
      let there = stands_there p limit words a s i e in
      ((pairs_exactly f a s).0 (i, e), there.0, there.1),
  λ (listed, below, code).
      let (j, found) = (pairs_exactly f a s).1 listed in
      let range = lookup_range p limit words a _ (omega (arith, f.in_range)) found in
      let here = lookup_found f a range.0 range.1 i below code in
      let same : j ≡ i = cc in
      found ∙ ap (λ (x : ℕ). given (s ∷ x ∷ [])) same,
)

pub cells : Cells
cells =
    record {
      stands_there = stands_there 65537 2048;
      own_cell_lem = own_cell_lem 65537 2048;
      apart = λ words a b s t i e g.
          sym (stands_there 65537 2048 words a s i e).1 ∙ (stands_there 65537 2048 words b t i g).1;
      where_read = λ words accept. where_read ((check_exactly 65537 2048 words).0 accept);
    }
