-- `lookup::branch_free::lookup_numbered_for` meets its contract, by what the plain lookup and the block's answer give.
use Prim.Native.Nat.{◌<◌}
use mathlib.Core.Path.{◌∙◌, sym}
use native.Mathlib.Omega.{arith}
use Rattle.table.specs.code.Sized.{WithBlocks}
use Rattle.table.proofs.Sizing.{sized, has_blocks_lem}
use Rattle.prelude.proofs.Laws.{below_prime}
use Rattle.lookup.proofs.Probing.{shown_as, sizes_told}
use Rattle.lookup.proofs.Steps.{lookup_block}
use Rattle.lookup.proofs.branch_free.lookup_numbered_for.Goals as goal

pub block_of-j-requires : goal.block_of-j-requires
block_of-j-requires c =
    let blocks : WithBlocks c.args.format.prime c.args.format.limit c.args.words.now = has_blocks_lem (sym c.has_blocks.ensures ∙ c.if-has_blocks.true) in
    let in_range : c.args.code < c.args.format.prime = below_prime _ _ (sym c.outside.ensures ∙ c.if-outside.false) in
    record { in_bounds = (blocks.three, blocks.some); words_bound = ((sized blocks.sizes).below, in_range) }

pub block_answer-requires : goal.block_answer-requires
block_answer-requires c =
    let blocks : WithBlocks c.args.format.prime c.args.format.limit c.args.words.now = has_blocks_lem (sym c.has_blocks.ensures ∙ c.if-has_blocks.true) in
    let in_range : c.args.code < c.args.format.prime = below_prime _ _ (sym c.outside.ensures ∙ c.if-outside.false) in
    (in_range, record { whole = (sized blocks.sizes).whole; below = c.block_of-j.ensures.range })

pub returns-then-has_blocks : goal.returns-then-has_blocks
returns-then-has_blocks c =
    let blocks : WithBlocks c.args.format.prime c.args.format.limit c.args.words.now = has_blocks_lem (sym c.has_blocks.ensures ∙ c.if-has_blocks.true) in
    shown_as
    (rw c.block_of-j.ensures.value
    (sym (lookup_block _ _ _ _ (sym c.outside.ensures ∙ c.if-outside.false) blocks.three blocks.sizes (λ none. omega (arith, blocks.some)))))
    c.block_answer.ensures

pub returns : goal.returns
returns c =
    shown_as
    (rw (c.select.ensures, c.bad_sizes.ensures)
    (sizes_told _ _ _ _ _ (sym c.outside.ensures ∙ c.if-outside.false) (sym c.has_blocks.ensures ∙ c.if-has_blocks.false) c.if-words-lt3.false))
    c.numbered-2.ensures
