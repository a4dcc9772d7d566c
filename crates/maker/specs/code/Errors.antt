-- What is written of a text or a list, or its error: what the contracts of the functions that write cite.
use Rattle.std.specs.Prelude.{ℕ, ◌≤◌, ◌≡◌, List, Result, Ok, Err}
use Rattle.prelude.specs.Answers.{Answer, refused}
use Rattle.prelude.specs.Numbers.{number_of, value_of}
use Rattle.decimal.specs.code.Added.{Added}
use Rattle.lines.specs.Lines.{refused_line}
use Rattle.suppliers.specs.Answered.{text_error_of}
use Rattle.builder.specs.Built.{build_error_of}
use Rattle.maker.specs.declared.MakeError.{MakeError}
use Rattle.maker.specs.declared.MakeError.TheVariants.{TooLong, Unread, Refused}

-- the paper's number for each error
abbrev pub make_error_of : MakeError → Answer
make_error_of TooLong = refused 61 0
make_error_of (Unread e) = text_error_of e
make_error_of (Refused e) = build_error_of e

-- a size that comes with an error is no larger than a text
abbrev pub SmallSize : MakeError → Type 0
SmallSize TooLong = Unit {0}
SmallSize (Unread e) = value_of (text_error_of e) ≤ 65536
SmallSize (Refused e) = Unit {0}

-- the bytes are written over the first ones, or they are the line of an error's refusal, and nothing is written yet
abbrev pub BytesOr : {E : Type 0} → (E → Answer) → List ℕ → List ℕ → Result ℕ E → List ℕ → Type 0
BytesOr error bytes old (Ok end) new = Added bytes 0 old end new
BytesOr error bytes old (Err e) new = (new ≡ old) × (bytes ≡ refused_line (number_of (error e)) (value_of (error e)))

-- the same of a text
abbrev pub MadeOr : List ℕ → List ℕ → Result ℕ MakeError → List ℕ → Type 0
MadeOr bytes old (Ok end) new = Added bytes 0 old end new
MadeOr bytes old (Err e) new = SmallSize e × (new ≡ old) × (bytes ≡ refused_line (number_of (make_error_of e)) (value_of (make_error_of e)))
