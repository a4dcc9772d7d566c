-- `audit::check::check_for` meets its contract: the tests 11 to 15 are the definition's, in the same order, and the rest is that from 16 on.
use mathlib.Core.Bool.{false}
use mathlib.Core.Path.{◌≡◌, sym, ◌∙◌}
use borrow.Author.Tests.{lt-ltb, le-ltb}
use lib.Dec.{ltb}
use lib.ListN.{length}
use Rattle.table.specs.Sizes.{too_many_codes, too_many_cells, bad_multiplier}
use Rattle.audit.specs.Check.{check_of}
use Rattle.audit.specs.code.From.{from_starts}
use Rattle.audit.proofs.check.check_for.Goals as goal

pub returns-then-words-lt3 : goal.returns-then-words-lt3
unfolding check_of
returns-then-words-lt3 c = rw (lt-ltb (length c.args.words.now) 3 c.if-words-lt3.true)

pub returns-then-too_many_codes : goal.returns-then-too_many_codes
unfolding check_of
returns-then-too_many_codes c =
    let three : ltb (length c.args.words.now) 3 ≡ false = le-ltb _ _ c.if-words-lt3.false in
    rw (three, sym c.too_many_codes.ensures ∙ c.if-too_many_codes.true)

pub returns-then-too_many_cells : goal.returns-then-too_many_cells
unfolding check_of
returns-then-too_many_cells c =
    let three : ltb (length c.args.words.now) 3 ≡ false = le-ltb _ _ c.if-words-lt3.false in
    let codes : too_many_codes c.args.format.limit c.args.words.now ≡ false = sym c.too_many_codes.ensures ∙ c.if-too_many_codes.false in
    rw (three, codes, sym c.too_many_cells.ensures ∙ c.if-too_many_cells.true)

pub returns-then-bad_multiplier : goal.returns-then-bad_multiplier
unfolding check_of
returns-then-bad_multiplier c =
    let three : ltb (length c.args.words.now) 3 ≡ false = le-ltb _ _ c.if-words-lt3.false in
    let codes : too_many_codes c.args.format.limit c.args.words.now ≡ false = sym c.too_many_codes.ensures ∙ c.if-too_many_codes.false in
    let cells : too_many_cells c.args.words.now ≡ false = sym c.too_many_cells.ensures ∙ c.if-too_many_cells.false in
    rw (three, codes, cells, sym c.bad_multiplier.ensures ∙ c.if-bad_multiplier.true)

pub returns-then-too_short : goal.returns-then-too_short
unfolding check_of
returns-then-too_short c =
    let three : ltb (length c.args.words.now) 3 ≡ false = le-ltb _ _ c.if-words-lt3.false in
    let codes : too_many_codes c.args.format.limit c.args.words.now ≡ false = sym c.too_many_codes.ensures ∙ c.if-too_many_codes.false in
    let cells : too_many_cells c.args.words.now ≡ false = sym c.too_many_cells.ensures ∙ c.if-too_many_cells.false in
    let multiplier : bad_multiplier c.args.format.prime c.args.words.now ≡ false = sym c.bad_multiplier.ensures ∙ c.if-bad_multiplier.false in
    rw (
      c.total.ensures,
      three,
      codes,
      cells,
      multiplier,
      sym c.too_short.ensures ∙ c.if-too_short.true,
    )

pub returns : goal.returns
unfolding check_of from_starts
returns c =
    let three : ltb (length c.args.words.now) 3 ≡ false = le-ltb _ _ c.if-words-lt3.false in
    let codes : too_many_codes c.args.format.limit c.args.words.now ≡ false = sym c.too_many_codes.ensures ∙ c.if-too_many_codes.false in
    let cells : too_many_cells c.args.words.now ≡ false = sym c.too_many_cells.ensures ∙ c.if-too_many_cells.false in
    let multiplier : bad_multiplier c.args.format.prime c.args.words.now ≡ false = sym c.bad_multiplier.ensures ∙ c.if-bad_multiplier.false in
    rw (three, codes, cells, multiplier, sym c.too_short.ensures ∙ c.if-too_short.false)
    c.check_blocks.ensures
