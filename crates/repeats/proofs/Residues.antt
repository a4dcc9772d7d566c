-- A bit set of residues mod 65,536: 64 to a word. The residue of each code before i is in the set, so a code whose residue is not is none of them.
use Prim.Native.Nat.{ℕ, ◌+◌, ◌/◌, ◌%◌, ◌^◌, ◌<◌}
use mathlib.Core.Bool.{false}
use mathlib.Core.List.{List}
use mathlib.Core.Path.{◌≡◌, sym, ap, ◌∙◌}
use native.Mathlib.Decide.{ℕ_discrete}
use native.Mathlib.Omega.{arith}
use lib.Bits.{bit_and, bit_or}
use lib.ListN.{length, get_or, take, set, length-set}
use lib.Seq.{get_or-set_same, get_or-set_other, get_or-take, length-take-le}
use Rattle.repeats.specs.Repeated.{repeated}
use Rattle.prelude.proofs.Among.{among_none}
use Rattle.hash.proofs.BitSets.{put_same, put_keeps, none_common}

-- the word and the digit of a code's residue
abbrev pub word : ℕ → ℕ
word a = a % 65536 / 64

abbrev pub digit : ℕ → ℕ
digit a = a % 65536 % 64

-- the residue of each code before i is in the set
pub record ResiduesTaken (codes : List ℕ) (i : ℕ) (taken : List ℕ) : Type 0 where
  pub sized : length taken ≡ 1024
  pub in_set : (j : ℕ) → j < i → get_or taken (word (get_or codes j 0)) 0 / 2 ^ digit (get_or codes j 0) % 2 ≡ 1

pub residues_start : (codes taken : List ℕ) → length taken ≡ 1024 → ResiduesTaken codes 0 taken
residues_start codes taken size = record { sized = size; in_set = λ j l. absurd (omega arith) }

module _ {codes : List ℕ} {i : ℕ} {taken : List ℕ} (h : ResiduesTaken codes i taken) (bit : ℕ) (is : bit ≡ 2 ^ digit (get_or codes i 0)) where
  abbrev a : ℕ
  a = get_or codes i 0

  abbrev before : ℕ
  before = get_or taken (word a) 0

  pub residues_new : i < length codes → bit_and before bit ≡ 0 → repeated codes i ≡ false
  unfolding repeated
  residues_new l free =
      among_none a (take i codes)
      (λ j m e.
      let k : j < i = omega (arith, length-take-le i codes (omega arith)) in
      let same : get_or codes j 0 ≡ a = sym (get_or-take i codes j 0 k) ∙ e in
      none_common before (digit a) (ap (bit_and before) (sym is) ∙ free) (rw same at (h.in_set j k)))

  pub residues_more : ResiduesTaken codes (i + 1) (set taken (word a) (bit_or before bit))
  residues_more =
      let inside : word a < length taken = omega (arith, h.sized) in
      record {
        sized = length-set taken (word a) (bit_or before bit) ∙ h.sized;
        in_set = λ j m.
            elim (ℕ_discrete j i) [
              | yes e ↦ rw (e, get_or-set_same taken (word a) (bit_or before bit) 0 inside, is) (put_same before (digit a))
              | no ne ↦
                  elim (ℕ_discrete (word (get_or codes j 0)) (word a)) [
                    | yes w ↦
                        rw (w, get_or-set_same taken (word a) (bit_or before bit) 0 inside)
                        (put_keeps before (digit (get_or codes j 0)) bit (rw w at (h.in_set j (omega arith))))
                    | no nw ↦
                        rw (get_or-set_other taken (word a) (word (get_or codes j 0)) (bit_or before bit) 0 nw) (h.in_set j (omega arith))
                  ]
            ];
      }
