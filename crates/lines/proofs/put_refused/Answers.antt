-- `lines::put_refused` meets its contract: its pieces are those of the line, in their order.
use native.Mathlib.Omega.{arith}
use Rattle.std.proofs.Common.{rules}
use Rattle.decimal.specs.code.Added.{Added}
use Rattle.lines.specs.Lines.{refused_line}
use Rattle.decimal.proofs.Added.{both, kept}
use Rattle.lines.proofs.LineLaws.{refused_length}
use Rattle.lines.proofs.put_refused.Goals as goal

pub put_named-requires : goal.put_named-requires
put_named-requires c =
    omega (arith, refused_length c.args.number c.args.value)

pub put_named-requires-2 : goal.put_named-requires-2
put_named-requires-2 c =
    omega (arith, refused_length c.args.number c.args.value, c.put_named.ensures.added.place, kept c.put_named.ensures.added)

pub put-requires : goal.put-requires
put-requires c =
    omega (
      arith,
      refused_length c.args.number c.args.value,
      c.put_named.ensures.added.place,
      kept c.put_named.ensures.added,
      c.put_named-2.ensures.added.place,
      kept c.put_named-2.ensures.added,
    )

pub returns : goal.returns
unfolding refused_line
returns c =
    let line : Added (refused_line c.args.number c.args.value) c.args.at c.args.bytes.now c.put.new.self.end c.put.new.self.bytes.now =
    both c.put_named.ensures.added (both c.put_named-2.ensures.added c.put.ensures.added)
    in
    search (rules, line)
