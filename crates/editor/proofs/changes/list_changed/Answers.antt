-- `editor::changes::list_changed` meets its contract: the new pair stands first where there is one, and the others are gathered after it.
use Rattle.editor.proofs.Changed.{roomy_kept, gatherable, listed}
use Rattle.editor.proofs.changes.list_changed.Goals as goal

pub gather_others-requires : goal.gather_others-requires
gather_others-requires c =
    gatherable _ _ _ c.wide.ensures.value c.wide-c.ensures.value c.requires.changing c.list_new-from.ensures
    (roomy_kept c.requires.roomy c.list_new-from.auto.codes c.list_new-from.auto.schedules)

pub returns : goal.returns
returns c =
    listed _ _ _ c.wide.ensures.value c.wide-c.ensures.value c.requires.changing c.list_new-from.ensures
    (roomy_kept c.requires.roomy c.list_new-from.auto.codes c.list_new-from.auto.schedules) c.gather_others.ensures
