-- `listing::texts::put_head` meets its contract: its pieces are those of the line, in their order.
use native.Mathlib.Omega.{arith}
use Rattle.std.proofs.Common.{rules}
use Rattle.listing.specs.Listing.{head_line}
use Rattle.decimal.specs.code.Added.{Added}
use Rattle.decimal.proofs.Added.{both, kept}
use Rattle.listing.proofs.HeadLaws.{head_length}
use Rattle.listing.proofs.texts.put_head.Goals as goal

pub put_named-requires : goal.put_named-requires
put_named-requires c =
    omega (arith, head_length c.args.n c.args.c c.args.k)

pub put_named-requires-2 : goal.put_named-requires-2
put_named-requires-2 c =
    omega (arith, head_length c.args.n c.args.c c.args.k, c.put_named.ensures.added.place, kept c.put_named.ensures.added)

pub put_named-requires-3 : goal.put_named-requires-3
put_named-requires-3 c =
    omega (
      arith,
      head_length c.args.n c.args.c c.args.k,
      c.put_named.ensures.added.place,
      kept c.put_named.ensures.added,
      c.put_named-2.ensures.added.place,
      kept c.put_named-2.ensures.added,
    )

pub put-requires : goal.put-requires
put-requires c =
    omega (
      arith,
      head_length c.args.n c.args.c c.args.k,
      c.put_named.ensures.added.place,
      kept c.put_named.ensures.added,
      c.put_named-2.ensures.added.place,
      kept c.put_named-2.ensures.added,
      c.put_named-3.ensures.added.place,
      kept c.put_named-3.ensures.added,
    )

pub returns : goal.returns
unfolding head_line
returns c =
    let line : Added (head_line c.args.n c.args.c c.args.k) c.args.at c.args.bytes.now c.put.new.self.end c.put.new.self.bytes.now =
    both c.put_named.ensures.added (both c.put_named-2.ensures.added (both c.put_named-3.ensures.added c.put.ensures.added))
    in
    search (rules, line)
