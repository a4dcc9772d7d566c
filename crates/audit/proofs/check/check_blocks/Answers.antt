-- `audit::check::check_blocks` meets its contract: the tests 16 to 18 are the definition's, in the same order. Starts that pass 16 rise.
use mathlib.Core.Path.{sym, ◌∙◌}
use native.Mathlib.Omega.{arith}
use Rattle.prelude.proofs.Where.{where_first, where_passed, where_refused, where_next}
use Rattle.audit.specs.code.From.{from_starts}
use Rattle.audit.proofs.Passing.{starts_pass, multiplier_passes, cell_passes}
use Rattle.audit.proofs.check.check_blocks.Goals as goal

pub overflow_cast-result : goal.overflow_cast-result
overflow_cast-result c = omega (arith, c.requires.few_codes, (where_first _ _ (sym c.first_bad_start.ensures ∙ c.in-Some.is)).0)

pub returns-in-Some : goal.returns-in-Some
unfolding from_starts
returns-in-Some c = sym (where_refused _ _ 16 _ (sym c.first_bad_start.ensures ∙ c.in-Some.is))

pub overflow_cast-result-in-Some-first_bad_multiplier : goal.overflow_cast-result-in-Some-first_bad_multiplier
overflow_cast-result-in-Some-first_bad_multiplier c =
    omega (arith, c.requires.few_codes, (where_first _ _ (sym c.first_bad_multiplier.ensures ∙ c.in-Some-first_bad_multiplier.is)).0)

pub returns-in-Some-first_bad_multiplier : goal.returns-in-Some-first_bad_multiplier
unfolding from_starts
returns-in-Some-first_bad_multiplier c =
    sym (where_refused _ _ 17 _ (sym c.first_bad_multiplier.ensures ∙ c.in-Some-first_bad_multiplier.is))
    ∙ sym (where_next _ _ 16 _ (sym c.first_bad_start.ensures ∙ c.in_default.is))

pub overflow_cast-result-in-Some-first_bad_cell : goal.overflow_cast-result-in-Some-first_bad_cell
overflow_cast-result-in-Some-first_bad_cell c =
    omega (arith, (where_first _ _ (sym c.first_bad_cell.ensures ∙ c.in-Some-first_bad_cell.is)).0, c.type_inv.words 1)

pub returns-in-Some-first_bad_cell : goal.returns-in-Some-first_bad_cell
unfolding from_starts
returns-in-Some-first_bad_cell c =
    sym (where_refused _ _ 18 _ (sym c.first_bad_cell.ensures ∙ c.in-Some-first_bad_cell.is))
    ∙ sym (where_next _ _ 17 _ (sym c.first_bad_multiplier.ensures ∙ c.in_default-first_bad_multiplier.is))
    ∙ sym (where_next _ _ 16 _ (sym c.first_bad_start.ensures ∙ c.in_default.is))

pub check_places-requires : goal.check_places-requires
check_places-requires c =
    record {
      sized = c.requires;
      starts = starts_pass c.args.words.now c.requires.no_cells (where_passed _ _ (sym c.first_bad_start.ensures ∙ c.in_default.is));
      multipliers = λ j l.
          ((multiplier_passes c.args.format.prime c.args.words.now j c.args.format.has_least).0 (where_passed _ _ (sym c.first_bad_multiplier.ensures ∙ c.in_default-first_bad_multiplier.is) j l)).1;
      codes = λ i l. ((cell_passes c.args.format.prime c.args.words.now i c.args.format.has_least).0 (where_passed _ _ (sym c.first_bad_cell.ensures ∙ c.in_default-first_bad_cell.is) i l)).0;
    }

pub returns : goal.returns
unfolding from_starts
returns c =
    c.check_places.ensures
    ∙ sym (where_next _ _ 18 _ (sym c.first_bad_cell.ensures ∙ c.in_default-first_bad_cell.is))
    ∙ sym (where_next _ _ 17 _ (sym c.first_bad_multiplier.ensures ∙ c.in_default-first_bad_multiplier.is))
    ∙ sym (where_next _ _ 16 _ (sym c.first_bad_start.ensures ∙ c.in_default.is))
