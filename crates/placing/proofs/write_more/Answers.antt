-- `placing::write_more` meets its contract: each half of the block's cells is lent by itself.
use Prim.Native.Nat.{ℕ, ◌+◌, ◌*◌, ◌-◌, ◌<◌}
use mathlib.Core.List.{List}
use mathlib.Core.Path.{◌≡◌, refl, sym, ◌∙◌}
use native.Mathlib.Nat.{add-sub_cancel_left, mul-pos, mul-le-mul_left, mul-le-mul_right}
use native.Mathlib.Omega.{arith}
use borrow.Rule.Slice.PartMut.{put_mid, same_len_mid}
use lib.ListN.{length, take, drop, length-drop}
use lib.Seq.{length-take-le}
use Rattle.hash.proofs.Counting.{hash_lt}
use Rattle.search.specs.code.Cells.{square}
use Rattle.prelude.specs.Limits.{few}
use Rattle.placing.specs.code.Block.{codes_at, schedules_at, CodesPlaced, First, Gathered}
use Rattle.placing.specs.declared.Block.{Block}
use Rattle.placing.proofs.Parts.{put_part}
use Rattle.placing.proofs.Placing.{scattered_filled}
use Rattle.placing.proofs.Blocks.{block_square, lent_first, lent_second, block_placed}
use Rattle.placing.proofs.write_more.Goals as goal

module _ {p : ℕ} {b : Block} {words : List ℕ} (g : Gathered p b words) where
  abbrev w : ℕ
  w = b.codes * b.codes

  -- its square is positive, and a word
  sized : (0 < w) × (w < 4294967296)
  sized = (
    mul-pos (omega (arith, g.some)) (omega (arith, g.some)),
    omega (arith, mul-le-mul_left b.codes g.fits, mul-le-mul_right few g.fits),
  )

  lent : length (take (b.start + w - b.start) (drop b.start words)) ≡ w
  lent =
      rw (add-sub_cancel_left b.start w)
      (length-take-le w (drop b.start words) (omega (arith, length-drop b.start words, g.enough, g.apart)))

  -- the codes are placed
  module _ (new : List ℕ) (back : length new ≡ length (take (b.start + w - b.start) (drop b.start words))) where
    abbrev half : List ℕ
    half = put_mid b.start (b.start + w - b.start) words new

    -- what is lent for the schedules
    abbrev lent_again : List ℕ
    lent_again = let second = b.start + b.cells in take (second + w - second) (drop second half)

    again : First b.codes lent_again × (take b.codes lent_again ≡ schedules_at b words)
    again = let long : length new ≡ w = back ∙ lent in rw (put_part b.start w new words long) (lent_second g new long)

    again_length : length lent_again ≡ square (codes_at b words)
    again_length =
        let second = b.start + b.cells in
        rw (add-sub_cancel_left second w)
        (length-take-le w (drop second half)
        (omega (arith, length-drop second half, same_len_mid b.start (b.start + w - b.start) words new back, g.enough)))
        ∙ sym (block_square g)

-- its codes and their places, by the length of what was lent for them
placed :
    {p q n : ℕ} {b : Block} {words places cells : List ℕ} → Gathered p b words → n ≡ b.codes
    → CodesPlaced p (take n (take (b.start + b.codes * b.codes - b.start) (drop b.start words))) q places cells
    → CodesPlaced p (codes_at b words) q places cells
placed g own done = rw (own, (lent_first g).1) at done

pub move_values-requires : goal.move_values-requires
move_values-requires c =
    let g = c.requires.gathered in
    let found = placed g c.requires.own_len.0 (rw c.new-h.ensures.prime_is at c.move_codes-q.ensures) in
    let own = c.move_codes-q.auto.own ∙ c.requires.own_len.0 in
    record {
      first = rw own (again g _ c.move_codes-q.auto.cells).0;
      scattering = record {
        parallel = own ∙ sym (c.move_codes-q.auto.places ∙ c.requires.own_len.1);
        within = λ i l.
            rw (found.noted.places_are i (omega (arith, found.noted.each)), again_length g _ c.move_codes-q.auto.cells)
            (hash_lt _ _ _ _ (omega (arith, (sized g).0, block_square g)));
      };
    }

pub returns : goal.returns
returns c =
    let g = c.requires.gathered in
    let found = placed g c.requires.own_len.0 (rw c.new-h.ensures.prime_is at c.move_codes-q.ensures) in
    block_placed g found.multiplier found.cells_are
    (c.move_values.ensures
    ∙ rw (c.move_codes-q.auto.own ∙ c.requires.own_len.0, (again g _ c.move_codes-q.auto.cells).1, again_length g _ c.move_codes-q.auto.cells)
    (scattered_filled _ found.noted))
    refl
