-- `editor::edit::put_in` meets its contract: a table is full for a code exactly where as many other codes as the limit are in it.
use mathlib.Core.Path.{◌≡◌, sym, ◌∙◌}
use lib.ListN.{length}
use Rattle.reader.specs.Pairs.{pairs_in}
use Rattle.editor.specs.Edit.{without, with_pair}
use Rattle.editor.specs.code.Changes.{changed}
use Rattle.editor.proofs.Edits.{refusal, rebuilding, full, put_outcome, with_searchable}
use Rattle.editor.proofs.edit.put_in.Goals as goal

pub returns-then-others-wide : goal.returns-then-others-wide
returns-then-others-wide c =
    refusal 53 0
    (full c.requires.well_formed _ _ _ (sym c.count_others-others.ensures ∙ c.if-others-wide.true ∙ c.wide.ensures.value))

pub write_changed-total-requires : goal.write_changed-total-requires
unfolding changed with_pair
write_changed-total-requires c =
    let has_room : length (without c.args.code (pairs_in c.args.words.now)) ≡ c.args.format.limit → ⊥ = λ e. c.if-others-wide.false (c.count_others-others.ensures ∙ e ∙ sym c.wide.ensures.value) in
    record { searchable = with_searchable c.requires.well_formed _ c.requires.prime c.requires.limit_le_room has_room _ c.requires.in_range; changing = record { whole = c.requires.well_formed.whole; others_are = c.count_others-others.ensures } }

pub returns : goal.returns
unfolding changed with_pair
returns c =
    let has_room : length (without c.args.code (pairs_in c.args.words.now)) ≡ c.args.format.limit → ⊥ = λ e. c.if-others-wide.false (c.count_others-others.ensures ∙ e ∙ sym c.wide.ensures.value) in
    put_outcome c.requires.well_formed _ has_room _
    (rebuilding (with_pair c.args.code c.args.schedule (pairs_in c.args.words.now)) c.write_changed-total.ensures c.rebuilt.ensures)
