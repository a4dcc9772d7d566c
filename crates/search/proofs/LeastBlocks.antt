-- The search for k: what a counting under k tells, and that the search ends at the least k that keeps the bound.
use Prim.Native.Nat.{ℕ, ◌+◌, ◌*◌, ◌-◌, ◌<◌}
use native.Mathlib.Omega.{arith}
use mathlib.Core.Bool.{false}
use mathlib.Core.List.{List}
use mathlib.Core.Logic.{inl, inr}
use mathlib.Core.Path.{◌∙◌, ◌≡◌}
use borrow.Author.Tests.{lt-leb}
use lib.ListN.{length}
use Rattle.hash.specs.Hash.{cells}
use Rattle.hash.proofs.Counting.{cells_is}
use Rattle.hash.proofs.Indicators.{true_or_false}
use Rattle.table.specs.TwoLevel.{blocks_multiplier}
use Rattle.table.proofs.Chosen.{blocks_least}
use Rattle.std.specs.Prelude.{Option, Some, None}
use Rattle.search.specs.code.Searchable.{Searchable}
use Rattle.search.specs.code.Blocks.{keeps, count_of, LeastBlocks}
use Rattle.jumps.specs.code.Jumps.{Passed}
use Rattle.search.proofs.Tries.{Trying, trying_start, trying_more, trying_skip, trying_found}

-- k is to be tried
abbrev pub TryingBlocks : ℕ → List ℕ → ℕ → Type 0
TryingBlocks p codes k = Trying (keeps p codes) p (blocks_multiplier p codes) k

pub blocks_start : {p : ℕ} {codes : List ℕ} → Searchable p codes → 0 < length codes → TryingBlocks p codes 1
blocks_start {p} {codes} list some = trying_start (blocks_least list.prime codes list.valid some)

-- what the counting under k answers: the least k with its cells, or that the next one is to be tried
module _ {p k : ℕ} (codes : List ℕ) {count : Option ℕ} (h : TryingBlocks p codes k) (answer : count ≡ count_of p k codes) where
  pub blocks_found : {c : ℕ} → count ≡ Some c → LeastBlocks p codes k c
  blocks_found {c} fits =
      elim (true_or_false (keeps p codes k)) [
        | inl e ↦
            let kept : count_of p k codes ≡ Some (cells p k codes) = rw e in
            record { multiplier = trying_found h e; cells = cc }
        | inr e ↦ let over : count_of p k codes ≡ None = rw e in record { multiplier = cc; cells = cc }
      ]

  pub blocks_more : ((c : ℕ) → count ≡ Some c → ⊥) → TryingBlocks p codes (k + 1)
  blocks_more over = trying_more h fails
    where
      fails : keeps p codes k ≡ false
      fails =
          elim (true_or_false (keeps p codes k)) [
            | inl e ↦
                let kept : count_of p k codes ≡ Some (cells p k codes) = rw e in
                absurd (over (cells p k codes) (answer ∙ kept))
            | inr e ↦ e
          ]

-- what is passed over keeps too many pairs together
pub blocks_skip :
    {p k r : ℕ} (codes : List ℕ) → 0 < length codes → TryingBlocks p codes k → Passed p (length codes) (length codes - 1) codes k r → TryingBlocks p codes r
blocks_skip {p} {k} {r} codes some h passed =
    trying_skip h passed.from
    (λ j l m. lt-leb (cells p j codes + 2) (3 * length codes) (omega (arith, cells_is p j codes some, passed.over j l m)))
