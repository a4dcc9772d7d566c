-- `listing::texts::list_table` meets its contract: the number of bytes decides 61 and 62, and otherwise their words are those that are listed.
use native.Mathlib.Omega.{arith}
use mathlib.Core.Path.{◌≡◌, refl}
use Rattle.std.proofs.Common.{rules}
use Rattle.std.specs.Prelude.{Err}
use Rattle.files.proofs.WordLaws.{filled_whole}
use Rattle.listing.specs.declared.texts.FileError.TheVariants.{Refused}
use Rattle.listing.proofs.FileLaws.{too_long, ragged, whole}
use Rattle.listing.proofs.texts.list_table.Goals as goal

pub returns-then-bytes-gt65536 : goal.returns-then-bytes-gt65536
returns-then-bytes-gt65536 c = (refl, too_long c.args.format.prime c.args.format.limit c.args.bytes.now c.if-bytes-gt65536.true)

pub returns-then-bytes-ne0 : goal.returns-then-bytes-ne0
returns-then-bytes-ne0 c = (refl, ragged c.args.format.prime c.args.format.limit c.args.bytes.now c.if-bytes-gt65536.false c.if-bytes-ne0.true)

pub returns-in_err-end : goal.returns-in_err-end
returns-in_err-end c =
    let e = c.in_err-end.field-0.0 in
    let is : c.from_residual.result ≡ Err (Refused e) = search rules in
    rw (is, whole c.args.format.prime c.args.format.limit c.args.bytes.now c.if-bytes-gt65536.false c.if-bytes-ne0.false, ← filled_whole c.words_of-n.ensures (omega arith))
    c.in_err-end.ensures

pub returns : goal.returns
returns c =
    rw (whole c.args.format.prime c.args.format.limit c.args.bytes.now c.if-bytes-gt65536.false c.if-bytes-ne0.false, ← filled_whole c.words_of-n.ensures (omega arith))
    c.in_ok-end.ensures
