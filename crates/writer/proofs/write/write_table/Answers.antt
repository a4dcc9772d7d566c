use Prim.Native.Nat.{ℕ, ◌+◌, ◌<◌, ◌≤◌}
use mathlib.Core.Bool.{Bool, true, false}
use mathlib.Core.List.{List}
use mathlib.Core.Path.{◌≡◌, refl, sym, ap, ◌∙◌}
use native.Mathlib.Omega.{arith}
use borrow.Author.Tests.{ltb-true}
use lib.Dec.{ltb}
use lib.ListN.{length, get_or, take, drop}
use lib.Seq.{length-take-le}
use Rattle.prelude.specs.Pairs.{among}
use Rattle.prelude.specs.code.Choice.{chosen}
use Rattle.table.specs.TwoLevel.{front_with, table_with}
use Rattle.placing.specs.code.Block.{Gathered}
use Rattle.writer.specs.code.Grouping.{BlockOfEach, Loads, SharedListed}
use Rattle.writer.specs.code.Writing.{Writable, table_from, block_at, block_in}
use Rattle.writer.specs.declared.write.Shape.{Shape}
use Rattle.writer.proofs.Sharing.{table_but, sharing_begin, sharing_ext, listed_gathered, listed_more, sharing_end}
use Rattle.writer.proofs.Listing.{waiting_begin, waiting_end, next_below, next_waits, next_done, next_other}
use Rattle.writer.proofs.write.write_table.Goals as goal

-- the blocks that are listed, and the words before the first of them and after the last
module _
    {shape : Shape} {codes schedules loads blocks list : List ℕ} (d : Writable shape codes schedules)
    (b : BlockOfEach shape.prime shape.multiplier codes blocks) (h : Loads shape.prime shape.multiplier codes loads) (kept : length list ≡ length blocks)
    {shared : ℕ} (s : SharedListed loads shared list)
  where
    abbrev shared_block : ℕ → Bool
    shared_block j = ltb 1 (get_or loads j 0)

    abbrev listed : List ℕ
    listed = take shared list

    abbrev waiting : ℕ → ℕ → Bool
    waiting t j = among j (drop t listed)

    counted : length loads ≡ shape.codes
    counted = h.each ∙ sym d.codes_are

    are : listed ≡ chosen shared_block shape.codes
    are = s.listed ∙ ap (chosen shared_block) counted

    listed_long : length listed ≡ shared
    listed_long = length-take-le shared list (omega (arith, s.counted, h.each, b.each))

    written : {words : List ℕ} → words ≡ table_from shape codes schedules 0 → words ≡ table_but shape codes schedules (waiting 0)
    written e = e ∙ sharing_begin d h ∙ sharing_ext d shared_block (waiting 0) (waiting_begin shared_block shape.codes are)

    ended :
        {words : List ℕ} (t : ℕ) → length listed ≤ t → words ≡ table_but shape codes schedules (waiting t)
        → words ≡ table_with shape.prime (front_with shape.prime shape.multiplier codes) shape.cells codes schedules
    ended t l is =
        sharing_end d (is ∙ sharing_ext d (waiting t) (λ j. false) (λ j m. waiting_end shared_block shape.codes are t j l))

    -- the next of them
    module _ {words : List ℕ} {t : ℕ} (l : t < length listed) (is : words ≡ table_but shape codes schedules (waiting t)) where
      abbrev next : ℕ
      next = get_or listed t 0

      next_fits : (next < shape.codes) × (shared_block next ≡ true)
      next_fits = next_below shared_block shape.codes are t l

      waits : waiting t next ≡ true
      waits = next_waits shared_block shape.codes are t l

      gathered : Gathered shape.prime (block_at shape loads next words) words
      gathered = listed_gathered d h (waiting t) next next_fits.0 waits is (ltb-true 1 _ next_fits.1)

      more : {new : List ℕ} → new ≡ block_in shape (block_at shape loads next words) next words → new ≡ table_but shape codes schedules (waiting (t + 1))
      more =
          listed_more d h (waiting t) next next_fits.0 waits is (waiting (t + 1)) (next_done shared_block shape.codes are t l)
          (next_other shared_block shape.codes are t l)

pub returns-then-shared-eq0 : goal.returns-then-shared-eq0
returns-then-shared-eq0 c =
    ended c.requires.writable c.requires.block_of_each c.requires.loads c.list_shared-shared.auto.list c.list_shared-shared.ensures 0
    (omega (arith, listed_long c.requires.writable c.requires.block_of_each c.requires.loads c.list_shared-shared.auto.list c.list_shared-shared.ensures))
    (written c.requires.writable c.requires.block_of_each c.requires.loads c.list_shared-shared.auto.list c.list_shared-shared.ensures c.write_gathered.ensures)

pub loop-j-init : goal.loop-j-init
loop-j-init c = (
  written c.requires.writable c.requires.block_of_each c.requires.loads c.list_shared-shared.auto.list c.list_shared-shared.ensures c.write_gathered.ensures,
  (refl, (refl, refl)),
)

pub write_shared-requires : goal.write_shared-requires
write_shared-requires c =
    rw c.from.ensures
    (record {
      j_lt_codes = (
        (next_fits c.requires.writable c.requires.block_of_each c.requires.loads c.list_shared-shared.auto.list c.list_shared-shared.ensures c.loop-j-test.true
            c.loop-j.invariant.0).0,
        (
          omega (arith, c.requires.writable.codes_are, c.requires.writable.searchable.few),
          counted c.requires.writable c.requires.block_of_each c.requires.loads c.list_shared-shared.auto.list c.list_shared-shared.ensures,
        ),
      );
      words_len = c.loop-j.invariant.1.0 ∙ c.write_gathered.auto.words ∙ c.requires.words_len;
      gathered =
          gathered c.requires.writable c.requires.block_of_each c.requires.loads c.list_shared-shared.auto.list c.list_shared-shared.ensures c.loop-j-test.true
          c.loop-j.invariant.0;
      own_len = c.loop-j.invariant.1.1;
    })

pub loop-j-preserved : goal.loop-j-preserved
loop-j-preserved c = (
  more c.requires.writable c.requires.block_of_each c.requires.loads c.list_shared-shared.auto.list c.list_shared-shared.ensures c.loop-j-test.true c.loop-j.invariant.0
      (rw c.from.ensures at c.write_shared.ensures),
  (c.write_shared.auto.words ∙ c.loop-j.invariant.1.0, (c.write_shared.auto.own ∙ c.loop-j.invariant.1.1.0, c.write_shared.auto.places ∙ c.loop-j.invariant.1.1.1)),
)

pub returns : goal.returns
returns c =
    ended c.requires.writable c.requires.block_of_each c.requires.loads c.list_shared-shared.auto.list c.list_shared-shared.ensures c.loop-j.j-index
    c.loop-j-test.false c.loop-j.invariant.0
