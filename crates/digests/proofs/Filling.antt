-- All places of lent memory filled: front to back, where nothing of what was there is left, or from the other end.
use Prim.Native.Nat.{ℕ, ◌+◌, ◌%◌, ◌≤◌}
use mathlib.Core.List.{List, append-nil}
use mathlib.Core.Path.{◌≡◌, ◌∙◌}
use native.Mathlib.Omega.{arith}
use lib.ListN.{length}
use lib.Seq.{drop-length}
use Rattle.std.specs.List.{ReversedBelow}
use Rattle.prelude.specs.Tabulate.{tabulate}
use Rattle.prelude.proofs.Tabulate.{TabulatedTo, tabulate_is}
use Rattle.digests.specs.Lent.{counted_at, turned_at, turned}

pub tabulated_whole : (f : ℕ → ℕ) {i : ℕ} {old new : List ℕ} → TabulatedTo f i old new → length old ≤ i → new ≡ tabulate f (length old)
tabulated_whole f {i} {old} {new} l h =
    let e : i ≡ length old = omega (arith, l.room) in
    l.memory ∙ rw (e, drop-length old) (append-nil (tabulate f (length old)))

pub counted_next : (first i : ℕ) → (counted_at first i + 1) % 4294967296 ≡ counted_at first (i + 1)
counted_next first i = omega arith

pub reversed_turned :
    {list copy new : List ℕ} → copy ≡ list → length new ≡ length copy → ReversedBelow copy new (length copy) → new ≡ turned list
unfolding turned
reversed_turned {list} {copy} {new} e size each =
    let same : length new ≡ length list = rw e at size in
    let turned_each = rw e at each in
    rw same at (tabulate_is (turned_at list) new (λ i h. turned_each i 0 (omega arith)))
