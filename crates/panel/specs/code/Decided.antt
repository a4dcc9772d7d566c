-- What decides a panel as the walk keeps it.
use Rattle.std.specs.Prelude.{ℕ, Bool, ◌&&◌, ◌||◌, eqb, ltb}
use Rattle.prelude.specs.Answers.{Answer, given, absent, unknown, refused}
use Rattle.panel.specs.Panel.{ended_of}
use Rattle.panel.specs.declared.Decided.{Decided}

-- a lookup's answer as the panel's, for the code at index i: it ends the panel, but where a schedule is found
abbrev pub answer_at : Answer → ℕ → Answer
answer_at (given values) i = given values
answer_at absent i = ended_of absent i
answer_at (unknown j) i = ended_of (unknown j) i
answer_at (refused number value) i = ended_of (refused number value) i

-- one more schedule takes the place of the one before it: its hold is longer, or as long and its number smaller
abbrev pub replaces : Decided → Decided → Bool
replaces d next = ltb d.hold next.hold || (eqb d.hold next.hold && ltb next.schedule d.schedule)
