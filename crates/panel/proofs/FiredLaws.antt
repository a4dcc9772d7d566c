-- No two values of a panel's answer say the same: each can be told from its number and values.
use mathlib.Core.Bool.{cond}
use mathlib.Core.Path.{◌≡◌, refl, sym, ◌∙◌, ap}
use lib.Dec.{eqb}
use lib.ListN.{get_or}
use Rattle.prelude.specs.Answers.{Answer, given, absent, unknown, refused}
use Rattle.std.specs.Prelude.{Result, Ok, Err}
use Rattle.lookup.specs.declared.Found.{Found}
use Rattle.lookup.specs.declared.LookupError.TheVariants.{CodeOutOfRange, TooFewWords, BadSizes, BadBlock}
use Rattle.panel.specs.Fired.{fired_of}
use Rattle.panel.specs.declared.PanelError.{PanelError}
use Rattle.panel.specs.declared.PanelError.TheVariants.{NoCodes, TooManyCodes, BadHolds, Unknown, Refused, NotInUse}

told : Answer → Result Found PanelError
told (given values) = Ok (record { schedule = get_or values 0 0; cell = get_or values 1 0 })
told absent = Err NoCodes
told (unknown i) = Err (Unknown i)
told (refused number i) =
    Err (cond (eqb number 31) (Refused i CodeOutOfRange)
    (cond (eqb number 32) (Refused i TooFewWords)
    (cond (eqb number 33) (Refused i BadSizes)
    (cond (eqb number 34) (Refused i BadBlock)
    (cond (eqb number 75) (NotInUse i)
    (cond (eqb number 35) NoCodes
    (cond (eqb number 36) TooManyCodes BadHolds)))))))

told_fired : (r : Result Found PanelError) → told (fired_of r) ≡ r
unfolding told
told_fired (Ok found) = refl
told_fired (Err NoCodes) = refl
told_fired (Err TooManyCodes) = refl
told_fired (Err BadHolds) = refl
told_fired (Err (Unknown i)) = refl
told_fired (Err (Refused i CodeOutOfRange)) = refl
told_fired (Err (Refused i TooFewWords)) = refl
told_fired (Err (Refused i BadSizes)) = refl
told_fired (Err (Refused i BadBlock)) = refl
told_fired (Err (NotInUse i)) = refl

pub fired_injective : (a b : Result Found PanelError) → fired_of a ≡ fired_of b → a ≡ b
fired_injective a b e = sym (told_fired a) ∙ ap told e ∙ told_fired b
