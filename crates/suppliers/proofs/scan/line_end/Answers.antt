-- `suppliers::scan::line_end` meets its contract: it returns at the first of the four tests that fails, or past the newline byte. That a newline byte
-- is still to come, after the comma too, keeps each place that is read inside the text.
use Prim.Native.Nat.{◌+◌, ◌<◌}
use mathlib.Core.Path.{sym, ◌∙◌}
use native.Mathlib.Omega.{arith}
use lib.ListN.{length}
use Rattle.suppliers.specs.code.Scan.{NewlineFrom}
use Rattle.suppliers.proofs.Places.{digits_inside, newline_next, no_comma, no_code, no_newline, no_schedule, line_ends}
use Rattle.suppliers.proofs.scan.line_end.Goals as goal

pub digits_end-comma-requires : goal.digits_end-comma-requires
digits_end-comma-requires c =
    digits_inside c.requires

pub bounds-text-comma : goal.bounds-text-comma
bounds-text-comma c =
    let comma-inside : c.digits_end-comma.result < length c.args.text.now = omega (arith, c.digits_end-comma.ensures, digits_inside c.requires) in
    omega (arith, comma-inside)

pub returns-then-text-comma-ne44 : goal.returns-then-text-comma-ne44
returns-then-text-comma-ne44 c =
    no_comma _ _ c.digits_end-comma.ensures c.if-text-comma-ne44.true

pub returns-then-not-is_number : goal.returns-then-not-is_number
returns-then-not-is_number c =
    no_code _ _ c.digits_end-comma.ensures (sym c.is_number.ensures ∙ c.if-not-is_number.true)

pub digits_end-end-requires : goal.digits_end-end-requires
digits_end-end-requires c =
    let after_comma_lem : NewlineFrom c.args.text.now (c.digits_end-comma.result + 1) = newline_next c.requires c.digits_end-comma.ensures c.if-text-comma-ne44.false in
    digits_inside after_comma_lem

pub bounds-text-end : goal.bounds-text-end
bounds-text-end c =
    let after_comma_lem : NewlineFrom c.args.text.now (c.digits_end-comma.result + 1) = newline_next c.requires c.digits_end-comma.ensures c.if-text-comma-ne44.false in
    let end-inside : c.digits_end-end.result < length c.args.text.now = omega (arith, c.digits_end-end.ensures, digits_inside after_comma_lem) in
    omega (arith, end-inside)

pub returns-then-text-end-ne10 : goal.returns-then-text-end-ne10
returns-then-text-end-ne10 c =
    no_newline _ _ c.digits_end-comma.ensures c.digits_end-end.ensures c.if-text-end-ne10.true

pub returns-then-not-is_number-2 : goal.returns-then-not-is_number-2
returns-then-not-is_number-2 c =
    no_schedule _ _ c.digits_end-comma.ensures c.digits_end-end.ensures
    (sym c.is_number-2.ensures ∙ c.if-not-is_number-2.true)

pub returns : goal.returns
returns c =
    line_ends _ _ c.digits_end-comma.ensures c.digits_end-end.ensures (sym c.is_number.ensures ∙ c.if-not-is_number.false)
    c.if-text-comma-ne44.false (sym c.is_number-2.ensures ∙ c.if-not-is_number-2.false) c.if-text-end-ne10.false
