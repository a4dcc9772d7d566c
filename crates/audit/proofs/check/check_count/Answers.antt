-- `audit::check::check_count` meets its contract.
use Prim.Native.Nat.{◌+◌, ◌*◌, ◌-◌, ◌<◌}
use mathlib.Core.Path.{◌≡◌, ap, ◌∙◌}
use native.Mathlib.Omega.{arith}
use borrow.Author.Tests.{eq-eqb, ne_eqb}
use lib.ListN.{length, take, drop, length-take}
use Rattle.table.specs.Words.{code_count}
use Rattle.audit.specs.Check.{codes_in, all_codes}
use Rattle.audit.specs.code.From.{from_count}
use Rattle.audit.proofs.Counting.{codes_le}
use Rattle.audit.proofs.Sound.{all_codes_is}
use Rattle.audit.proofs.check.check_count.Goals as goal

pub overflow_cast-result : goal.overflow_cast-result
overflow_cast-result c =
    let small : length (take (((3 + 2 * c.wide.result) + c.wide-2.result) - (3 + 2 * c.wide.result)) (drop (3 + 2 * c.wide.result) c.args.words.now)) < 4294967296 = omega (arith, length-take (((3 + 2 * c.wide.result) + c.wide-2.result) - (3 + 2 * c.wide.result)) (drop (3 + 2 * c.wide.result) c.args.words.now), c.wide-2.ensures.range) in
    omega (arith, c.count_codes-codes.ensures, codes_le (take (((3 + 2 * c.wide.result) + c.wide-2.result) - (3 + 2 * c.wide.result)) (drop (3 + 2 * c.wide.result) c.args.words.now)), small)

pub returns-then-codes-wide : goal.returns-then-codes-wide
unfolding from_count
returns-then-codes-wide c =
    let codes_is : c.count_codes-codes.result ≡ codes_in (all_codes c.args.words.now) = c.count_codes-codes.ensures ∙ ap codes_in (all_codes_is c.args.words.now _ _ c.wide.ensures.value c.wide-2.ensures.value) in
    rw (← codes_is, ne_eqb c.count_codes-codes.result (code_count c.args.words.now) (omega (arith, c.wide-3.ensures.value)))

pub returns : goal.returns
unfolding from_count
returns c =
    let codes_is : c.count_codes-codes.result ≡ codes_in (all_codes c.args.words.now) = c.count_codes-codes.ensures ∙ ap codes_in (all_codes_is c.args.words.now _ _ c.wide.ensures.value c.wide-2.ensures.value) in
    rw (← codes_is, eq-eqb c.count_codes-codes.result (code_count c.args.words.now) (omega (arith, c.wide-3.ensures.value)), c.total.ensures)
