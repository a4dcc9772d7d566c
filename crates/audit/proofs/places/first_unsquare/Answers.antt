use Prim.Native.Nat.{◌<◌, ◌^◌}
use mathlib.Core.Path.{sym}
use native.Mathlib.Omega.{arith}
use Rattle.hash.proofs.Words.{product_lt}
use Rattle.table.specs.Words.{code_count}
use Rattle.prelude.proofs.First.{below_next}
use Rattle.prelude.proofs.Where.{where_found, where_none}
use Rattle.audit.proofs.Counting.{codes_le}
use Rattle.audit.proofs.Parts.{part_small, unsquare, square}
use Rattle.audit.proofs.places.first_unsquare.Goals as goal

pub overflow_mul-codes : goal.overflow_mul-codes
overflow_mul-codes c =
    let below : c.loop-j.j < code_count c.args.words.now = omega (arith, c.wide-j-end.ensures.value) in
    let m : c.count_codes-codes.result < 2 ^ 32
    = omega (arith, c.count_codes-codes.ensures, codes_le c.block_codes-part.result.now, part_small c.requires below c.block_codes-part.ensures) in
    record { fits = product_lt 32 32 m m }

pub returns-then-part-codes : goal.returns-then-part-codes
returns-then-part-codes c =
    let below : c.loop-j.j < code_count c.args.words.now = omega (arith, c.wide-j-end.ensures.value) in
    sym (where_found _ _ _ below c.loop-j.invariant (unsquare c.requires below c.block_codes-part.ensures c.count_codes-codes.ensures c.if-part-codes.true))

pub loop-j-preserved : goal.loop-j-preserved
loop-j-preserved c =
    let below : c.loop-j.j < code_count c.args.words.now = omega (arith, c.wide-j-end.ensures.value) in
    below_next _ _ c.loop-j.invariant (square c.requires below c.block_codes-part.ensures c.count_codes-codes.ensures c.if-part-codes.false)

pub returns : goal.returns
returns c =
    sym (where_none _ _ (λ j l. c.loop-j.invariant j (omega (arith, c.wide-j-end.ensures.value))))
