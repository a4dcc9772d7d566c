use borrow.Author.Rules.{rules}
use Rattle.search.proofs.LeastBlocks.{blocks_start, blocks_more, blocks_skip}
use Rattle.search.proofs.blocks.blocks_multiplier.Goals as goal

pub loop-k-init : goal.loop-k-init
loop-k-init c = (blocks_start c.requires.searchable.0 c.requires.searchable.1, c.requires.blocks_len)

pub loop-k-preserved : goal.loop-k-preserved
loop-k-preserved c =
    let answer = rw (c.with_multiplier.ensures.prime_is, c.with_multiplier.ensures.multiplier_is, c.new-h.ensures.prime_is) at c.count_cells.ensures.answers in (
      blocks_skip c.args.codes.now c.requires.searchable.1 (blocks_more c.args.codes.now c.loop-k.invariant.0 answer c.in_default.not-Some)
          c.after-k.ensures,
      search rules,
    )
