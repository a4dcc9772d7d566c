-- `maker::make_built` meets its contract: the build's answer decides between the bytes of the table, which fit, and a refusal's line.
use mathlib.Core.Path.{◌≡◌, refl, sym}
use native.Mathlib.Omega.{arith}
use Rattle.std.proofs.Common.{rules}
use Rattle.std.specs.Prelude.{Err}
use Rattle.prelude.specs.Limits.{most_pairs}
use Rattle.maker.proofs.Building.{TableHeld, none_built, table_held, refused_line_lem, bytes_added}
use Rattle.maker.proofs.make_built.Goals as goal

pub returns-in_err-total : goal.returns-in_err-total
returns-in_err-total c =
    let e = c.in_err-total.field-0.0 in
    let is : c.from_residual.result ≡ Err e = search rules in
    rw is (refl, refused_line_lem 16384 (omega arith) c.in_err-total.ensures (none_built e))

pub slice_bounds-words-end : goal.slice_bounds-words-end
slice_bounds-words-end c =
    let held : TableHeld 65537 most_pairs c.args.codes.now c.args.schedules.now 16384 c.wide-n.result c.build.new.words = rw c.wide-n.ensures.value (table_held 16384 (omega arith) c.in_ok-total.ensures refl) in
    omega (arith, held.fits)

pub slice_bounds-bytes_of-end : goal.slice_bounds-bytes_of-end
slice_bounds-bytes_of-end c =
    let held : TableHeld 65537 most_pairs c.args.codes.now c.args.schedules.now 16384 c.wide-n.result c.build.new.words = rw c.wide-n.ensures.value (table_held 16384 (omega arith) c.in_ok-total.ensures refl) in
    let h = held in rw h.held (sym h.size)

pub returns : goal.returns
returns c =
    let held : TableHeld 65537 most_pairs c.args.codes.now c.args.schedules.now 16384 c.wide-n.result c.build.new.words = rw c.wide-n.ensures.value (table_held 16384 (omega arith) c.in_ok-total.ensures refl) in
    let h = held in
    rw (h.bytes, ← h.held) (bytes_added (rw (h.held, h.size) (omega (arith, h.fits))) c.bytes_of.ensures)
