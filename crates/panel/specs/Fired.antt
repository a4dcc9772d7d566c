-- The paper's number for each case of a panel's answer (document 01, "Panel"; document 02, Change 5).
use Rattle.std.specs.Prelude.{[], ◌∷◌, Result, Ok, Err}
use Rattle.prelude.specs.Answers.{Answer, given, unknown, refused}
use Rattle.lookup.specs.Found.{lookup_error_of}
use Rattle.lookup.specs.declared.Found.{Found}
use Rattle.panel.specs.Panel.{ended_of}
use Rattle.panel.specs.declared.PanelError.{PanelError}
use Rattle.panel.specs.declared.PanelError.TheVariants.{NoCodes, TooManyCodes, BadHolds, Unknown, Refused, NotInUse}

abbrev pub panel_error_of : PanelError → Answer
panel_error_of NoCodes = refused 35 0
panel_error_of TooManyCodes = refused 36 0
panel_error_of BadHolds = refused 74 0
panel_error_of (Unknown i) = unknown i
panel_error_of (Refused i e) = ended_of (lookup_error_of e) i
panel_error_of (NotInUse i) = refused 75 i

abbrev pub fired_of : Result Found PanelError → Answer
fired_of (Ok found) = given (found.schedule ∷ found.cell ∷ [])
fired_of (Err e) = panel_error_of e
