-- `editor::edit::take_out` meets its contract: the code is not there exactly where all codes are others.
use mathlib.Core.Path.{◌≡◌, sym, ◌∙◌}
use lib.ListN.{length}
use Rattle.table.specs.Words.{code_count}
use Rattle.reader.specs.Pairs.{pairs_in}
use Rattle.editor.specs.Edit.{without}
use Rattle.editor.specs.code.Changes.{changed}
use Rattle.editor.proofs.Edits.{refusal, rebuilding, gone, out_outcome, without_searchable}
use Rattle.editor.proofs.edit.take_out.Goals as goal

pub returns-then-others-wide : goal.returns-then-others-wide
returns-then-others-wide c =
    refusal 55 0
    (gone c.requires.well_formed _ _ (sym c.count_others-others.ensures ∙ c.if-others-wide.true ∙ c.wide.ensures.value))

pub write_changed-total-requires : goal.write_changed-total-requires
unfolding changed
write_changed-total-requires c = record { searchable = without_searchable c.requires.well_formed _ c.requires.prime c.requires.limit_le_room; changing = record { whole = c.requires.well_formed.whole; others_are = c.count_others-others.ensures } }

pub returns : goal.returns
unfolding changed
returns c =
    let is_there : length (without c.args.code (pairs_in c.args.words.now)) ≡ code_count c.args.words.now → ⊥ = λ e. c.if-others-wide.false (c.count_others-others.ensures ∙ e ∙ sym c.wide.ensures.value) in
    out_outcome c.requires.well_formed _ is_there
    (rebuilding (without c.args.code (pairs_in c.args.words.now)) c.write_changed-total.ensures c.rebuilt.ensures)
