-- `listing::texts::list_words` meets its contract: reading back decides between the lines of the table and that of the refusal.
use native.Mathlib.Omega.{arith}
use mathlib.Core.Path.{◌≡◌, refl, ◌∙◌, sym}
use Rattle.std.proofs.Common.{rules}
use Rattle.std.specs.Prelude.{Err}
use Rattle.listing.proofs.FileLaws.{listed_read, refused_read}
use Rattle.listing.proofs.texts.list_words.Goals as goal

pub returns-in_err-count : goal.returns-in_err-count
returns-in_err-count c =
    let e = c.in_err-count.field-0.0 in
    let is : c.from_residual.result ≡ Err e = search rules in
    rw is (refl, refused_read (omega arith) (omega arith) e c.in_err-count.ensures)

pub slice_bounds-codes-end : goal.slice_bounds-codes-end
slice_bounds-codes-end c =
    let r = listed_read (omega arith) (omega arith) c.in_ok-count.ensures c.wide-n.ensures.value in
    omega arith

pub slice_bounds-put_table-end : goal.slice_bounds-put_table-end
slice_bounds-put_table-end c =
    let r = listed_read (omega arith) (omega arith) c.in_ok-count.ensures c.wide-n.ensures.value in
    sym r.codes_length

pub slice_bounds-schedules-end : goal.slice_bounds-schedules-end
slice_bounds-schedules-end c =
    let r = listed_read (omega arith) (omega arith) c.in_ok-count.ensures c.wide-n.ensures.value in
    omega arith

pub slice_bounds-put_table-end-2 : goal.slice_bounds-put_table-end-2
slice_bounds-put_table-end-2 c =
    let r = listed_read (omega arith) (omega arith) c.in_ok-count.ensures c.wide-n.ensures.value in
    sym r.schedules_length

pub put_table-requires : goal.put_table-requires
put_table-requires c =
    let r = listed_read (omega arith) (omega arith) c.in_ok-count.ensures c.wide-n.ensures.value in
    (r.three, (omega arith, r.schedules_length ∙ sym r.codes_length))

pub returns : goal.returns
returns c =
    let r = listed_read (omega arith) (omega arith) c.in_ok-count.ensures c.wide-n.ensures.value in
    rw r.text c.put_table.ensures
