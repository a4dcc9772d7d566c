-- The blocks of more codes than one, listed and placed one after the other: those that are left in the list are as they were gathered, all others are the
-- table's.
use Prim.Native.Nat.{ℕ, zero, suc, ◌+◌, ◌*◌, ◌-◌, ◌<◌, ◌≤◌}
use mathlib.Core.Bool.{Bool, true, false, cond}
use mathlib.Core.List.{List, [], ◌∷◌, ◌++◌}
use mathlib.Core.Logic.{inl, inr}
use mathlib.Core.Path.{◌≡◌, refl, sym, ap, ap₂, ◌∙◌}
use native.Mathlib.Decide.{dec_lt}
use native.Mathlib.Nat.{mul-le-mul_left}
use native.Mathlib.Omega.{arith}
use borrow.Author.Tests.{lt-ltb, le-ltb}
use lib.Dec.{ltb}
use lib.ListN.{length, get_or, take, drop, set, replicate, length-append, length-replicate}
use lib.Seq.{take_at, drop_at, take-take}
use Rattle.hash.specs.Hash.{hash_of, load, members, sum, cells}
use Rattle.hash.proofs.Indicators.{true_or_false}
use Rattle.hash.proofs.Counting.{load_members, load_le}
use Rattle.hash.proofs.Members.{members_codes}
use Rattle.prelude.specs.Limits.{few}
use Rattle.table.specs.Words.{own_cell}
use Rattle.prelude.specs.Tabulate.{tabulate}
use Rattle.table.specs.TwoLevel.{cells_multiplier, start_of, front_with, held_at, table_with}
use Rattle.prelude.proofs.Tabulate.{tabulate_ext}
use Rattle.table.proofs.Front.{block_q, start_next, start_last, front_parts, front_fronted}
use Rattle.search.specs.code.Placed.{values_of}
use Rattle.search.specs.code.Cells.{filled_by}
use Rattle.search.specs.code.Searchable.{Searchable}
use Rattle.search.proofs.LeastCells.{cells_one, cells_none}
use Rattle.search.proofs.PlacedLaws.{values_of_codes}
use Rattle.search.proofs.BlockCells.{block_cells}
use Rattle.writer.specs.code.Grouping.{Loads}
use Rattle.placing.specs.code.Block.{codes_at, schedules_at, First, put_at, Gathered}
use Rattle.writer.specs.code.Writing.{joined, laid, Writable, start_from, cells_from, table_from, block_at, block_in}
use Rattle.placing.specs.declared.Block.{Block}
use Rattle.writer.specs.declared.write.Shape.{Shape}
use Rattle.writer.proofs.Groups.{sum_grows, square_le}
use Rattle.placing.proofs.Placing.{filled_length}
use Rattle.writer.proofs.Laid.{Wide, Beside, laid_ext, laid_start, store_multiplier, standing_read, standing_long, codes_stand, schedules_stand, put_codes, put_schedules}
use Rattle.writer.proofs.Gathering.{all_cells, values_length, cells_wide}

-- the values listed with the codes of block j, the block's multiplier, and its cells
abbrev values_of_block : Shape → List ℕ → List ℕ → ℕ → List ℕ
values_of_block shape codes values j = values_of shape.prime shape.multiplier (length codes) j codes values

abbrev least_of : Shape → List ℕ → ℕ → ℕ
least_of shape codes j = cells_multiplier shape.prime (values_of_block shape codes codes j)

abbrev cells_placed : Shape → List ℕ → List ℕ → ℕ → List ℕ
cells_placed shape codes values j =
    filled_by shape.prime (least_of shape codes j) (values_of_block shape codes codes j) (values_of_block shape codes values j)

-- a table but for the blocks that are pending
abbrev multiplier_of : Shape → List ℕ → (ℕ → Bool) → ℕ → ℕ
multiplier_of shape codes pending j = cond (pending j) 1 (least_of shape codes j)

abbrev cells_of_but : Shape → List ℕ → List ℕ → (ℕ → Bool) → ℕ → List ℕ
cells_of_but shape codes values pending j =
    cond (pending j) (cells_from shape.prime shape.multiplier codes values 0 j) (cells_placed shape codes values j)

abbrev pub table_but : Shape → List ℕ → List ℕ → (ℕ → Bool) → List ℕ
table_but shape codes schedules pending =
    laid shape (start_from shape.prime shape.multiplier codes 0) (multiplier_of shape codes pending) (cells_of_but shape codes codes pending)
    (cells_of_but shape codes schedules pending)

module _ {shape : Shape} {codes schedules : List ℕ} (d : Writable shape codes schedules) where
  abbrev p : ℕ
  p = shape.prime

  abbrev k : ℕ
  k = shape.multiplier

  abbrev size : ℕ → ℕ
  size j = load p k (length codes) j codes * load p k (length codes) j codes

  abbrev values_in : List ℕ → ℕ → List ℕ
  values_in = values_of_block shape codes

  abbrev q : ℕ → ℕ
  q = least_of shape codes

  abbrev placed_cells : List ℕ → ℕ → List ℕ
  placed_cells = cells_placed shape codes

  abbrev multiplier_but : (ℕ → Bool) → ℕ → ℕ
  multiplier_but = multiplier_of shape codes

  abbrev cells_but : (ℕ → Bool) → List ℕ → ℕ → List ℕ
  cells_but pending values = cells_of_but shape codes values pending

  -- ---- the blocks

  block_long : (j : ℕ) → length (values_in codes j) ≡ load p k (length codes) j codes
  block_long j = values_length p k (length codes) j codes codes refl

  placed_wide : (values : List ℕ) (j : ℕ) → length (placed_cells values j) ≡ size j
  placed_wide values j = filled_length p (q j) (values_in codes j) (values_in values j) ∙ ap (λ (m : ℕ). m * m) (block_long j)

  but_wide : (pending : ℕ → Bool) (values : List ℕ) → length values ≡ length codes → Wide shape size (cells_but pending values)
  but_wide pending values parallel j l =
      elim (true_or_false (pending j)) [
        | inl e ↦ rw e (cells_wide d values parallel 0 j l)
        | inr e ↦ rw e (placed_wide values j)
      ]

  block_searchable : (j : ℕ) → Searchable p (values_in codes j)
  block_searchable j =
      rw (values_of_codes p k (length codes) j codes)
      (record {
        prime = d.searchable.prime;
        valid = members_codes p k (length codes) j codes d.searchable.valid;
        few = omega (arith, load_members p k (length codes) j codes, load_le p k (length codes) j codes, d.searchable.few);
      })

  -- gathered, a block of at most one code is as the table has it
  single :
      (j : ℕ) (block values : List ℕ) (m : ℕ) → Searchable p block → length block ≡ m → length values ≡ m → m ≤ 1
      → (1 ≡ cells_multiplier p block) × (values ++ replicate (m * m - m) 0 ≡ filled_by p (cells_multiplier p block) block values)
  unfolding tabulate
  single j [] [] m s e f l = let none : m ≡ 0 = omega arith in rw (none, cells_none s) (refl, refl)
  single j [] (v ∷ values) m s e f l = absurd (omega arith)
  single j (a ∷ []) [] m s e f l = absurd (omega arith)
  single j (a ∷ []) (v ∷ []) m s e f l = let one : m ≡ 1 = omega arith in rw (one, (cells_one s).0) (refl, sym ((cells_one s).1 v))
  single j (a ∷ []) (v ∷ u ∷ values) m s e f l = absurd (omega arith)
  single j (a ∷ b ∷ block) values m s e f l = absurd (omega arith)

  gathered_cells :
      (values : List ℕ) (j : ℕ)
      → cells_from p k codes values 0 j
      ≡ values_in values j ++ replicate (load p k (length codes) j codes * load p k (length codes) j codes - load p k (length codes) j codes) 0
  gathered_cells values j =
      let m : ℕ = load p k (length codes) j codes in
      let none : m - m ≡ 0 = omega arith in
      rw none refl

  module _ {loads : List ℕ} (h : Loads p k codes loads) where
    abbrev pub shared : ℕ → Bool
    shared j = ltb 1 (get_or loads j 0)

    load_is : (j : ℕ) → j < shape.codes → get_or loads j 0 ≡ load p k (length codes) j codes
    load_is j l = h.loads_are j (omega (arith, d.codes_are))

    -- at first those of more codes than one are pending
    single_block :
        (values : List ℕ) → length values ≡ length codes → (j : ℕ) → j < shape.codes → get_or loads j 0 ≤ 1
        → (1 ≡ q j) × (cells_from p k codes values 0 j ≡ placed_cells values j)
    single_block values parallel j l few =
        let m : ℕ = load p k (length codes) j codes in
        let one =
        single j (values_in codes j) (values_in values j) m (block_searchable j) (block_long j)
        (values_length p k (length codes) j codes values parallel) (omega (arith, load_is j l)) in
        (one.0, gathered_cells values j ∙ one.1)

    cells_begin :
        (values : List ℕ) → length values ≡ length codes → (j : ℕ) → j < shape.codes → cells_from p k codes values 0 j ≡ cells_but shared values j
    cells_begin values parallel j l =
        elim (dec_lt 1 (get_or loads j 0)) [
          | yes more ↦ rw (lt-ltb 1 (get_or loads j 0) more) refl
          | no few ↦ rw (le-ltb 1 (get_or loads j 0) (omega arith)) (single_block values parallel j l (omega arith)).1
        ]

    pub sharing_begin : table_from shape codes schedules 0 ≡ table_but shape codes schedules shared
    sharing_begin =
        laid_ext shape (λ j l. refl)
        (λ j l.
        elim (dec_lt 1 (get_or loads j 0)) [
          | yes more ↦ rw (lt-ltb 1 (get_or loads j 0) more) refl
          | no few ↦ rw (le-ltb 1 (get_or loads j 0) (omega arith)) (single_block codes refl j l (omega arith)).0
        ])
        (cells_begin codes refl) (cells_begin schedules d.parallel)

  -- ---- one block, which is pending

  module _ (pending : ℕ → Bool) (j : ℕ) (l : j < shape.codes) (waits : pending j ≡ true) {words : List ℕ} (is : words ≡ table_but shape codes schedules pending) where
    abbrev m : ℕ
    m = load p k (length codes) j codes

    abbrev s : ℕ → ℕ
    s = start_from p k codes 0

    abbrev F : ℕ → List ℕ
    F = cells_but pending codes

    abbrev G : ℕ → List ℕ
    G = cells_but pending schedules

    wide_F : Wide shape size F
    wide_F = but_wide pending codes refl

    wide_G : Wide shape size G
    wide_G = but_wide pending schedules d.parallel

    pending_cells : (values : List ℕ) → cells_but pending values j ≡ cells_from p k codes values 0 j
    pending_cells values = rw waits refl

    -- the first of a block's cells hold its values, and the others 0
    first_cells :
        (values : List ℕ) (a : ℕ) → length values ≡ length codes → take (size j) (drop a words) ≡ cells_but pending values j
        → (take m (drop a words) ≡ values_in values j) × First m (take (size j) (drop a words))
    first_cells values a parallel these =
        let held : List ℕ = values_in values j in
        let zeros : List ℕ = replicate (m * m - m) 0 in
        let are : take (size j) (drop a words) ≡ held ++ zeros = these ∙ pending_cells values ∙ gathered_cells values j in
        let long : length held ≡ m = values_length p k (length codes) j codes values parallel in
        let size_is : length (held ++ zeros) ≡ m * m =
        omega (arith, length-append held zeros, length-replicate {A = ℕ} (m * m - m) 0, square_le m) in (
          sym (take-take m (size j) (drop a words) (square_le m)) ∙ ap (take m) are ∙ take_at held zeros m long,
          rw are
              (record {
                some = omega (arith, square_le m);
                zeros = drop_at held zeros m long ∙ ap (λ (x : ℕ). replicate {A = ℕ} (x - m) 0) (sym size_is);
              }),
        )

    module _ (b : Block) (start_is : b.start ≡ 3 + 2 * shape.codes + sum size j) (codes_is : b.codes ≡ m) (cells_is : b.cells ≡ shape.cells) where
      abbrev at : ℕ
      at = 3 + 2 * shape.codes + sum size j

      codes_here : (take m (drop at words) ≡ values_in codes j) × First m (take (size j) (drop at words))
      codes_here =
          first_cells codes at refl
          (ap (λ (t : List ℕ). take (size j) (drop at t)) is
          ∙ standing_read (codes_stand shape s (multiplier_but pending) F G size (all_cells d) j l wide_F))

      schedules_here :
          (take m (drop (at + shape.cells) words) ≡ values_in schedules j) × First m (take (size j) (drop (at + shape.cells) words))
      schedules_here =
          first_cells schedules (at + shape.cells) d.parallel
          (ap (λ (t : List ℕ). take (size j) (drop (at + shape.cells) t)) is
          ∙ standing_read (schedules_stand shape s (multiplier_but pending) F G size (all_cells d) j l wide_F wide_G))

      codes_at_lem : codes_at b words ≡ values_in codes j
      codes_at_lem = rw (start_is, codes_is) codes_here.0

      schedules_at_lem : schedules_at b words ≡ values_in schedules j
      schedules_at_lem = rw (start_is, codes_is, cells_is) schedules_here.0

      inside : size j ≤ shape.cells
      unfolding start_of
      inside = omega (arith, start_next p k codes j, sum_grows size (suc j) shape.codes l, all_cells d)

      -- 79 * 79 is above 3 * room
      not_many : m ≤ few
      not_many =
          elim (dec_lt few m) [
            | yes many ↦ absurd (omega (arith, mul-le-mul_left m many, inside, d.few_cells, d.searchable.few))
            | no ok ↦ omega arith
          ]

      sharing_gathered : 2 ≤ m → Gathered p b words
      sharing_gathered some =
          record {
            searchable = rw codes_at_lem (block_searchable j);
            some = omega arith;
            fits = omega (arith, not_many);
            apart = rw (codes_is, cells_is) inside;
            enough =
                rw (codes_is, cells_is, start_is, is)
                (standing_long (schedules_stand shape s (multiplier_but pending) F G size (all_cells d) j l wide_F wide_G));
            first = rw (start_is, codes_is) codes_here.1;
            second = rw (start_is, codes_is, cells_is) schedules_here.1;
          }

      -- once it is placed it is pending no more, and every other block is as it was
      module _ (next : ℕ → Bool) (written : next j ≡ false) (other : (i : ℕ) → (i ≡ j → ⊥) → next i ≡ pending i) where
        cells_next : (values : List ℕ) → cells_but next values j ≡ placed_cells values j
        cells_next values = rw written refl

        cells_kept : (values : List ℕ) → Beside shape j (cells_but pending values) (cells_but next values)
        cells_kept values i v ne = ap (λ (x : Bool). cond x (cells_from p k codes values 0 i) (placed_cells values i)) (other i ne)

        sharing_more : {new : List ℕ} → new ≡ block_in shape b j words → new ≡ table_but shape codes schedules next
        sharing_more {new} placed =
            let Q : ℕ → ℕ = multiplier_but pending in
            let F₁ : ℕ → List ℕ = cells_but next codes in
            let G₁ : ℕ → List ℕ = cells_but next schedules in
            let turned : cells_multiplier p (codes_at b words) ≡ multiplier_but next j = rw (codes_at_lem, written) refl in
            let first : filled_by p (cells_multiplier p (codes_at b words)) (codes_at b words) (codes_at b words) ≡ F₁ j = rw (codes_at_lem, written) refl in
            let second : filled_by p (cells_multiplier p (codes_at b words)) (codes_at b words) (schedules_at b words) ≡ G₁ j = rw (codes_at_lem, schedules_at_lem, written) refl in
            placed
            ∙ rw (first, second, turned, start_is, cells_is, is) refl
            ∙ ap (λ (t : List ℕ). set t (3 + shape.codes + j) (multiplier_but next j))
            (ap (put_at (at + shape.cells) (G₁ j))
            (put_codes shape s Q F G size (all_cells d) j l wide_F F₁ (cells_kept codes) (but_wide next codes refl j l))
            ∙ put_schedules shape s Q F₁ G size (all_cells d) j l (but_wide next codes refl) wide_G G₁ (cells_kept schedules)
            (but_wide next schedules d.parallel j l))
            ∙ store_multiplier shape s Q F₁ G₁ (multiplier_but next) j l (λ i v ne. ap (λ (x : Bool). cond x 1 (q i)) (other i ne))

  -- where the words say that it is
  module _
      {loads : List ℕ} (h : Loads p k codes loads) (pending : ℕ → Bool) (j : ℕ) (l : j < shape.codes) (waits : pending j ≡ true) {words : List ℕ}
      (is : words ≡ table_but shape codes schedules pending)
    where
      abbrev b : Block
      b = block_at shape loads j words

      starts_here : b.start ≡ 3 + 2 * shape.codes + sum size j
      unfolding start_of
      starts_here =
          omega (
            arith,
            ap (λ (t : List ℕ). get_or t (3 + j) 0) is,
            laid_start shape (start_from p k codes 0) (multiplier_but pending) (cells_but pending codes) (cells_but pending schedules) j l,
          )

      pub listed_gathered : 1 < get_or loads j 0 → Gathered p b words
      listed_gathered some = sharing_gathered pending j l waits is b starts_here (load_is h j l) refl (omega (arith, load_is h j l))

      pub listed_more :
          (next : ℕ → Bool) → next j ≡ false → ((i : ℕ) → (i ≡ j → ⊥) → next i ≡ pending i) → {new : List ℕ} → new ≡ block_in shape b j words
          → new ≡ table_but shape codes schedules next
      listed_more next written other placed = sharing_more pending j l waits is b starts_here (load_is h j l) refl next written other placed

  pub sharing_ext :
      (f g : ℕ → Bool) → ((j : ℕ) → j < shape.codes → f j ≡ g j) → table_but shape codes schedules f ≡ table_but shape codes schedules g
  sharing_ext f g same =
      let cells : (values : List ℕ) (j : ℕ) → j < shape.codes → cells_but f values j ≡ cells_but g values j =
      λ values j l. ap (λ (x : Bool). cond x (cells_from p k codes values 0 j) (placed_cells values j)) (same j l) in
      laid_ext shape (λ j l. refl) (λ j l. ap (λ (x : Bool). cond x 1 (q j)) (same j l)) (cells codes) (cells schedules)

  -- ---- no block is pending

  cells_are :
      (values : List ℕ) → length values ≡ length codes → (j : ℕ) → j ≤ length codes
      → joined (cells_but (λ i. false) values) j ≡ tabulate (held_at (own_cell p (front_with p k codes)) codes values) (start_of p k codes j)
  unfolding joined start_of sum tabulate
  cells_are values parallel zero l = refl
  cells_are values parallel (suc j) l =
      let block : List ℕ = members p k (length codes) j codes in
      let own : List ℕ = values_of p k (length codes) j codes values in
      ap₂ (λ (s t : List ℕ). s ++ t) (cells_are values parallel j (omega arith))
      (ap (λ (t : List ℕ). filled_by p (cells_multiplier p t) t own) (values_of_codes p k (length codes) j codes)
      ∙ ap (λ (x : ℕ). tabulate (held_at (hash_of p (cells_multiplier p block) (x * x)) block own) (x * x)) (load_members p k (length codes) j codes))
      ∙ sym (block_cells (front_fronted p k codes) j l values parallel)

  pub sharing_end : {words : List ℕ} → words ≡ table_but shape codes schedules (λ j. false) → words ≡ table_with p (front_with p k codes) shape.cells codes schedules
  unfolding table_with
  sharing_end {words} is =
      let n : ℕ = length codes in
      let held : List ℕ → ℕ → List ℕ = λ (values : List ℕ). tabulate (held_at (own_cell p (front_with p k codes)) codes values) in
      let starts : tabulate (start_from p k codes 0) n ≡ tabulate (start_of p k codes) n =
      tabulate_ext (start_from p k codes 0) (start_of p k codes) n (λ j l. omega arith) in
      let multipliers : tabulate q n ≡ tabulate (block_q p k codes) n =
      tabulate_ext q (block_q p k codes) n (λ j l. ap (cells_multiplier p) (values_of_codes p k n j codes)) in
      let last : start_of p k codes n ≡ cells p k codes = start_last p k codes in
      let cells_of : (values : List ℕ) → length values ≡ length codes → joined (cells_but (λ j. false) values) n ≡ held values (cells p k codes) =
      λ values parallel. cells_are values parallel n (omega arith) ∙ ap (held values) last in
      is
      ∙ rw (d.codes_are, starts, multipliers, cells_of codes refl, cells_of schedules d.parallel, d.cells_are)
      (sym (front_parts p k codes (held codes (cells p k codes) ++ held schedules (cells p k codes))))
