-- Each error of a list is a refusal.
use Prim.Native.Nat.{ℕ}
use mathlib.Core.Path.{◌≡◌, refl}
use Rattle.prelude.specs.Answers.{refused}
use Rattle.lists.specs.List.{list_error_of}
use Rattle.lists.specs.declared.list.ListError.{ListError}
use Rattle.lists.specs.declared.list.ListError.TheVariants.{LengthsDiffer, TooManyPairs, BadCode, BadSchedule, Repeated}

pub refuses : (e : ListError) → (number : ℕ) × (value : ℕ) × (list_error_of e ≡ refused number value)
refuses LengthsDiffer = (1, 0, refl)
refuses TooManyPairs = (2, 0, refl)
refuses (BadCode i) = (3, i, refl)
refuses (BadSchedule i) = (4, i, refl)
refuses (Repeated i) = (5, i, refl)
