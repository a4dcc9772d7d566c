-- One block of more codes than one in the words: its pairs, and what the words are once both halves of its cells came back.
use Prim.Native.Nat.{ℕ, suc, ◌+◌, ◌*◌, ◌-◌, ◌≤◌}
use mathlib.Core.List.{List, [], ◌∷◌, ◌++◌}
use mathlib.Core.Path.{◌≡◌, refl, sym, ap, ap₂, ◌∙◌}
use native.Mathlib.Nat.{add-sub_cancel_left, mul-le-mul_left}
use native.Mathlib.Numerals.{add-one}
use native.Mathlib.Omega.{arith}
use lib.ListN.{length, get_or, take, drop, set, length-append, length-drop}
use lib.Seq.{drop-cons, drop_at, drop-drop, length-take-le, take-take}
use Rattle.table.specs.TwoLevel.{cells_multiplier}
use Rattle.search.specs.code.Cells.{square, filled_by, Separated}
use Rattle.placing.specs.code.Block.{codes_at, schedules_at, First, Gathered, put_at, BlockPlaced}
use Rattle.placing.specs.declared.Block.{Block}
use Rattle.placing.proofs.Parts.{put_part}
use Rattle.placing.proofs.Placing.{filled_length}

-- the first two of some words
first_two : (words : List ℕ) (a m : ℕ) → m ≡ 2 → a + 2 ≤ length words → take m (drop a words) ≡ get_or words a 0 ∷ get_or words (a + 1) 0 ∷ []
first_two words a m two room =
    rw (two, drop-cons words a 0 (omega arith), add-one a) (rw (drop-cons words (suc a) 0 (omega arith)) refl)

put_length : (a : ℕ) (new words : List ℕ) → a + length new ≤ length words → length (put_at a new words) ≡ length words
put_length a new words room =
    omega (
      arith,
      length-append (take a words) (new ++ drop (length new) (drop a words)),
      length-append new (drop (length new) (drop a words)),
      length-take-le a words (omega arith),
      length-drop (length new) (drop a words),
      length-drop a words,
    )

-- what stands behind what is put is as it was
put_behind :
    (a e : ℕ) (new words : List ℕ) → a + length new ≤ e → a + length new ≤ length words → drop e (put_at a new words) ≡ drop e words
put_behind a e new words past room =
    let n : ℕ = length new in
    let front : length (take a words) ≡ a = length-take-le a words (omega arith) in
    let at : a + (e - a) ≡ e = omega arith in
    let in_rest : n + (e - a - n) ≡ e - a = omega arith in
    ap (λ (x : ℕ). drop x (put_at a new words)) (sym at)
    ∙ sym (drop-drop (e - a) a (put_at a new words))
    ∙ ap (drop (e - a)) (drop_at (take a words) (new ++ drop n (drop a words)) a front)
    ∙ ap (λ (x : ℕ). drop x (new ++ drop n (drop a words))) (sym in_rest)
    ∙ sym (drop-drop (e - a - n) n (new ++ drop n (drop a words)))
    ∙ ap (drop (e - a - n)) (drop_at new (drop n (drop a words)) n refl)
    ∙ drop-drop (e - a - n) n (drop a words)
    ∙ ap (λ (x : ℕ). drop x (drop a words)) in_rest
    ∙ drop-drop (e - a) a words
    ∙ ap (λ (x : ℕ). drop x words) at

module _ {p : ℕ} {b : Block} {words : List ℕ} (g : Gathered p b words) where
  abbrev block : List ℕ
  block = codes_at b words

  abbrev values : List ℕ
  values = schedules_at b words

  pub some_square : b.codes ≤ b.codes * b.codes
  some_square = omega (arith, mul-le-mul_left b.codes g.some)

  pub block_length : length block ≡ b.codes
  block_length = length-take-le b.codes (drop b.start words) (omega (arith, length-drop b.start words, g.enough, g.apart, some_square))

  pub block_square : square block ≡ b.codes * b.codes
  block_square = ap (λ (m : ℕ). m * m) block_length

  -- what is lent of its cells
  abbrev lent_at : ℕ → List ℕ → List ℕ
  lent_at a these = take (a + b.codes * b.codes - a) (drop a these)

  pub lent_first : First b.codes (lent_at b.start words) × (take b.codes (lent_at b.start words) ≡ block)
  lent_first =
      rw (add-sub_cancel_left b.start (b.codes * b.codes))
      (g.first, take-take b.codes (b.codes * b.codes) (drop b.start words) some_square)

  -- with its codes placed, the other half is as it was
  pub lent_second :
      (new : List ℕ) → length new ≡ b.codes * b.codes
      → let half = put_at b.start new words in
      First b.codes (lent_at (b.start + b.cells) half) × (take b.codes (lent_at (b.start + b.cells) half) ≡ values)
  lent_second new size =
      let second : ℕ = b.start + b.cells in
      let same : drop second (put_at b.start new words) ≡ drop second words = put_behind b.start second new words (omega (arith, g.apart)) (omega (arith, g.enough, g.apart)) in
      rw (add-sub_cancel_left second (b.codes * b.codes), same)
      (g.second, take-take b.codes (b.codes * b.codes) (drop second words) some_square)

  pub two_codes : b.codes ≡ 2 → block ≡ get_or words b.start 0 ∷ get_or words (b.start + 1) 0 ∷ []
  two_codes two = first_two words b.start b.codes two (omega (arith, g.enough, g.apart, some_square))

  pub two_schedules : b.codes ≡ 2 → values ≡ get_or words (b.start + b.cells) 0 ∷ get_or words (b.start + b.cells + 1) 0 ∷ []
  two_schedules two = first_two words (b.start + b.cells) b.codes two (omega (arith, g.enough, some_square))

  -- the halves come back, one after the other
  module _
      {q w : ℕ} {first second : List ℕ} (least : Separated p block q) (first_is : first ≡ filled_by p q block block)
      (second_is : second ≡ filled_by p q block values) (size : w ≡ b.codes * b.codes)
    where
      abbrev half : List ℕ
      half = take b.start words ++ (first ++ drop (b.start + w - b.start) (drop b.start words))

      abbrev whole : List ℕ
      whole =
          take (b.start + b.cells) half
          ++ (second ++ drop (b.start + b.cells + w - (b.start + b.cells)) (drop (b.start + b.cells) half))

      pub block_placed : BlockPlaced p b words q whole
      block_placed =
          let first-long : length first ≡ w = ap length first_is ∙ filled_length p q block block ∙ block_square ∙ sym size in
          let second-long : length second ≡ w = ap length second_is ∙ filled_length p q block values ∙ block_square ∙ sym size in
          record {
            multiplier = least;
            placed =
                put_part (b.start + b.cells) w second half second-long
                ∙ ap (put_at (b.start + b.cells) second) (put_part b.start w first words first-long)
                ∙ ap₂ (λ (s t : List ℕ). put_at (b.start + b.cells) t (put_at b.start s words)) first_is second_is;
          }

  pub placed_long : {q : ℕ} {words' : List ℕ} → BlockPlaced p b words q words' → length words' ≡ length words
  placed_long {q} h =
      let one : List ℕ = filled_by p q block block in
      let two : List ℕ = filled_by p q block values in
      let one-long : length one ≡ b.codes * b.codes = filled_length p q block block ∙ block_square in
      let two-long : length two ≡ b.codes * b.codes = filled_length p q block values ∙ block_square in
      let kept : length (put_at b.start one words) ≡ length words = put_length b.start one words (omega (arith, g.enough)) in
      ap length h.placed
      ∙ put_length (b.start + b.cells) two (put_at b.start one words) (omega (arith, g.enough))
      ∙ kept

  -- with its multiplier stored
  pub placed_stored :
      {q : ℕ} {words' : List ℕ} (i : ℕ) → BlockPlaced p b words q words'
      → let r = cells_multiplier p block in
      set words' i q
      ≡ set (put_at (b.start + b.cells) (filled_by p r block values) (put_at b.start (filled_by p r block block) words)) i r
  placed_stored i h = rw (h.placed, h.multiplier.multiplier) refl
