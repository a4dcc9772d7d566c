-- The part of the words that belongs to a block. A code is in its own cell exactly where the cell's block is its block, and the cell's place is its
-- place there: a block without cells has none of these places.
use Prim.Native.Nat.{ℕ, ◌+◌, ◌*◌, ◌-◌, ◌^◌, ◌<◌, ◌≤◌}
use mathlib.Core.Bool.{Bool, true, false, not, ◌&&◌, ◌||◌}
use mathlib.Core.List.{List}
use mathlib.Core.Path.{◌≡◌, refl, sym, ap, ap₂, subst, ◌∙◌}
use native.Mathlib.Decide.{ℕ_discrete}
use native.Mathlib.Omega.{arith}
use borrow.Author.Tests.{eq-eqb, ne_eqb}
use lib.Dec.{eqb, ltb}
use lib.ListN.{length, get_or, take, drop, length-drop}
use lib.Seq.{get_or-take, get_or-drop, length-take-le}
use Rattle.hash.specs.Hash.{hash_of}
use Rattle.hash.proofs.Words.{product_lt}
use Rattle.prelude.specs.Answers.{first_of, first_where}
use Rattle.prelude.proofs.First.{first_ext}
use Rattle.table.specs.Words.{code_count, total, block_start, block_end, block_multiplier, cell_code, block_of, cell_in, own_cell}
use Rattle.audit.specs.Check.{misplaced, bad_square, codes_in, block_codes}
use Rattle.audit.specs.code.Starts.{Starts}
use Rattle.audit.proofs.Counting.{codes_le}
use Rattle.audit.proofs.Partition.{block_lt, edge_start, apart, end_within, cell_lt}
use Rattle.table.specs.code.Sized.{HashOf}
use Rattle.audit.specs.code.Blocks.{not_own, misplaced_in, Handed, Tested, Lined, Ranged, BlockHashOf}
use Rattle.audit.specs.code.Places.{cells_of, unsound}
use Rattle.hash.specs.declared.Hasher.{Hasher}
use Rattle.audit.specs.declared.blocks.BlockHash.{BlockHash}
use Rattle.audit.specs.declared.blocks.BlockTest.{BlockTest}

eqb_add : (s h t : ℕ) → eqb (s + h) (s + t) ≡ eqb h t
eqb_add s h t =
    elim (ℕ_discrete h t) [
      | yes e ↦ eq-eqb (s + h) (s + t) (omega arith) ∙ sym (eq-eqb h t e)
      | no ne ↦ ne_eqb (s + h) (s + t) (omega arith) ∙ sym (ne_eqb h t ne)
    ]

module _ (p : ℕ) (words : List ℕ) (s : Starts words) (j t a : ℕ) (lj : j < code_count words) (lt : t < block_end words j - block_start words j) where
  -- a code that belongs to block b is in its own cell, at place t of block j, exactly where b is j and t its place
  own_place :
      (b : ℕ) → b < code_count words
      → not (eqb b j && eqb (hash_of p (block_multiplier words j) (block_end words j - block_start words j) a) t)
      ≡ (eqb (block_start words b) (block_end words b) || not (eqb (cell_in p words b a) (block_start words j + t)))
  unfolding cell_in
  own_place b lb =
      elim (ℕ_discrete b j) [
        | yes e ↦
            rw (e, eq-eqb j j refl, ne_eqb (block_start words j) (block_end words j) (omega arith), eqb_add) refl
        | no ne ↦
            rw (ne_eqb b j ne)
            (elim (ℕ_discrete (block_start words b) (block_end words b)) [
              | yes e ↦ rw (eq-eqb (block_start words b) (block_end words b) e) refl
              | no has ↦
                  rw (
                    ne_eqb (block_start words b) (block_end words b) has,
                    ne_eqb (cell_in p words b a) (block_start words j + t)
                        (apart words s b j (cell_in p words b a) (block_start words j + t) lb lj ne
                        (omega (arith, edge_start words s b lb))
                        (cell_lt words s p b a lb has)
                        (omega (arith, edge_start words s j lj))
                        (omega arith)),
                  )
                  refl
            ])
      ]

-- the part of the words that is handed on for block j
module _ (words : List ℕ) (s : Starts words) (whole : total words ≤ length words) (j : ℕ) (lj : j < code_count words) where
  pub part_length : length (block_codes words j) ≡ block_end words j - block_start words j
  part_length =
      length-take-le (block_end words j - block_start words j) (drop (3 + 2 * code_count words + block_start words j) words)
      (rw length-drop (omega (arith, end_within words s j lj)))

  pub part_at : (t : ℕ) → t < block_end words j - block_start words j → get_or (block_codes words j) t 0 ≡ cell_code words (block_start words j + t)
  part_at t l = rw (get_or-take, get_or-drop) (ap (λ (i : ℕ). get_or words i 0) (omega arith))

  -- h and b are the hashes of the table and of block j
  module _ (h : Hasher) (b : BlockHash) (ht : HashOf words h) (hb : BlockHashOf words j b) where
    part_misplaced :
        (t : ℕ) → t < block_end words j - block_start words j
        → misplaced_in h b (block_codes words j) t ≡ misplaced h.prime words (block_start words j + t)
    unfolding misplaced_in not_own misplaced block_of own_cell
    part_misplaced t l =
        rw (part_at t l, ht.multiplier_is, ht.blocks_is, hb.number_is, hb.multiplier_is, hb.cells_is)
        (ap (λ (x : Bool). not (eqb (cell_code words (block_start words j + t)) 0) && x)
        (own_place h.prime words s j t (cell_code words (block_start words j + t)) lj l
        (block_of h.prime words (cell_code words (block_start words j + t)))
        (block_lt h.prime words (cell_code words (block_start words j + t)) (omega arith))))

    pub part_first : first_of (length (block_codes words j)) (misplaced_in h b (block_codes words j)) ≡ first_of (cells_of words j) (λ t. misplaced h.prime words (block_start words j + t))
    part_first =
        ap (λ (w : ℕ). first_of w (misplaced_in h b (block_codes words j))) part_length
        ∙ first_ext (cells_of words j) _ _ part_misplaced

    -- the first misplaced code of the part is that of the block
    pub part_where : first_where (length (block_codes words j)) (misplaced_in h b (block_codes words j)) ≡ first_where (cells_of words j) (λ t. misplaced h.prime words (block_start words j + t))
    part_where = rw (part_first, part_length) refl

    -- what the test of its part tells of the block
    part_unsound :
        (r : BlockTest) → Tested h b (block_codes words j) r
        → r.misplaced || not (eqb (length (block_codes words j)) (r.codes * r.codes)) ≡ unsound h.prime words j
    unfolding unsound bad_square
    part_unsound r test =
        ap₂ ◌||◌
        (test.misplaced_is
        ∙ ap₂ ltb part_first part_length)
        (rw (part_length, test.codes) refl)

-- 20, by the part
module _ {words part : List ℕ} {j codes : ℕ} (r : Lined words) (lj : j < code_count words) (is : part ≡ block_codes words j) (counted : codes ≡ codes_in part) where
  square_is : not (eqb (length part) (codes * codes)) ≡ bad_square words j
  unfolding bad_square
  square_is = rw (counted, is, part_length words r.starts r.whole j lj) refl

  pub unsquare : (length part ≡ codes * codes → ⊥) → bad_square words j ≡ true
  unsquare ne = sym square_is ∙ rw (ne_eqb (length part) (codes * codes) ne) refl

  pub square : length part ≡ codes * codes → bad_square words j ≡ false
  square e = sym square_is ∙ rw (eq-eqb (length part) (codes * codes) e) refl

-- what a block's test relies on
pub handed :
    {words part : List ℕ} {j : ℕ} {h : Hasher} {b : BlockHash} → Ranged h.prime 65536 words → HashOf words h → j < code_count words
    → BlockHashOf words j b → part ≡ block_codes words j → Handed h b part
handed {words} {part} {j} {h} {b} r ht lj hb is =
    let long : length part ≡ cells_of words j = ap length is ∙ part_length words r.starts r.sized.whole j lj in
    record {
      below = omega (arith, hb.multiplier_is, r.multipliers j lj);
      cells_are = long ∙ sym hb.cells_is;
      codes_below = λ t l.
          let l : t < cells_of words j = omega arith in
          subst (λ (x : ℕ). x < h.prime)
          (sym (ap (λ (p : List ℕ). get_or p t 0) is ∙ part_at words r.starts r.sized.whole j lj t l))
          (r.codes (block_start words j + t) (omega (arith, end_within words r.starts j lj)));
    }

pub part_small : {words part : List ℕ} {j : ℕ} → Lined words → j < code_count words → part ≡ block_codes words j → length part ≤ 3 * 65536
part_small {words} {part} {j} r lj is =
    omega
    (arith, ap length is, part_length words r.starts r.whole j lj, end_within words r.starts j lj, r.few_cells, r.few_codes)

pub square_fits :
    {words part : List ℕ} {j codes : ℕ} → Lined words → j < code_count words → part ≡ block_codes words j → codes ≡ codes_in part
    → codes * codes < 2 ^ (32 + 32)
square_fits {words} {part} {j} {codes} r lj is counted =
    let m : codes < 2 ^ 32 = omega (arith, counted, codes_le part, part_small r lj is) in
    product_lt 32 32 m m

-- what its test tells of a block
pub block_unsound :
    {words part : List ℕ} {j : ℕ} {h : Hasher} {b : BlockHash} (r : BlockTest) → Ranged h.prime 65536 words → HashOf words h → j < code_count words
    → BlockHashOf words j b → part ≡ block_codes words j → Tested h b part r
    → r.misplaced || not (eqb (length part) (r.codes * r.codes)) ≡ unsound h.prime words j
block_unsound {words} {part} {j} {h} {b} r ranged ht lj hb is test =
    rw is (part_unsound words ranged.starts ranged.sized.whole j lj h b ht hb r (subst (λ (p : List ℕ). Tested h b p r) is test))

-- as the code hands it on: the numbers were read before
pub part_is :
    (words : List ℕ) (j n start end : ℕ) → n ≡ code_count words → start ≡ block_start words j → end ≡ block_end words j
    → take ((3 + 2 * n + end) - (3 + 2 * n + start)) (drop (3 + 2 * n + start) words) ≡ block_codes words j
part_is words j n start end en es ee =
    let cells : (3 + 2 * n + end) - (3 + 2 * n + start) ≡ block_end words j - block_start words j = omega arith in
    rw (cells, en, es)
