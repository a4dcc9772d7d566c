-- `maker::make_table` meets its contract: the text's length decides 61, reading it 71 and 72, and otherwise its pairs are those that are built.
use mathlib.Core.Path.{◌≡◌, refl, sym, ap}
use native.Mathlib.Omega.{arith}
use Rattle.std.proofs.Common.{rules}
use Rattle.std.specs.Prelude.{Err}
use Rattle.prelude.specs.Limits.{most_pairs}
use Rattle.prelude.specs.Numbers.{value_of}
use Rattle.maker.specs.declared.MakeError.TheVariants.{Unread, Refused}
use Rattle.maker.proofs.Reading.{PairsHeld, read_value, read_refuses, answer_is, pairs_held}
use Rattle.maker.proofs.MakeLaws.{made_refused, too_long, refused_line_lem, built_bytes}
use Rattle.maker.proofs.make_table.Goals as goal

pub returns-then-text-gt65536 : goal.returns-then-text-gt65536
returns-then-text-gt65536 c =
    (tt, refl, made_refused 65537 most_pairs c.args.text.now 61 0 (too_long 65537 most_pairs c.args.text.now c.if-text-gt65536.true))

pub returns-in_err-n : goal.returns-in_err-n
returns-in_err-n c =
    let e = c.in_err-n.field-0.0 in
    let is : c.from_residual.result ≡ Err (Unread e) = search rules in
    let answers = answer_is most_pairs (omega arith) (omega arith) c.in_err-n.ensures in
    let value = ap value_of answers in
    rw is (
      omega (arith, value, read_value c.args.text.now most_pairs most_pairs, c.if-text-gt65536.false),
      refl,
      refused_line_lem 65537 most_pairs c.args.text.now c.if-text-gt65536.false answers (read_refuses e),
    )

pub slice_bounds-codes-end : goal.slice_bounds-codes-end
slice_bounds-codes-end c =
    let held : PairsHeld c.args.text.now most_pairs c.in_ok-n.n c.read_list.new.codes c.read_list.new.schedules = pairs_held most_pairs (omega arith) (omega arith) c.in_ok-n.ensures refl in
    omega (arith, held.fits)

pub slice_bounds-make_built-end : goal.slice_bounds-make_built-end
slice_bounds-make_built-end c =
    let held : PairsHeld c.args.text.now most_pairs c.in_ok-n.n c.read_list.new.codes c.read_list.new.schedules = pairs_held most_pairs (omega arith) (omega arith) c.in_ok-n.ensures refl in
    sym held.codes_length

pub slice_bounds-schedules-end : goal.slice_bounds-schedules-end
slice_bounds-schedules-end c =
    let held : PairsHeld c.args.text.now most_pairs c.in_ok-n.n c.read_list.new.codes c.read_list.new.schedules = pairs_held most_pairs (omega arith) (omega arith) c.in_ok-n.ensures refl in
    omega (arith, held.fits)

pub slice_bounds-make_built-end-2 : goal.slice_bounds-make_built-end-2
slice_bounds-make_built-end-2 c =
    let held : PairsHeld c.args.text.now most_pairs c.in_ok-n.n c.read_list.new.codes c.read_list.new.schedules = pairs_held most_pairs (omega arith) (omega arith) c.in_ok-n.ensures refl in
    sym held.schedules_length

pub returns-in_err-end : goal.returns-in_err-end
returns-in_err-end c =
    let held : PairsHeld c.args.text.now most_pairs c.in_ok-n.n c.read_list.new.codes c.read_list.new.schedules = pairs_held most_pairs (omega arith) (omega arith) c.in_ok-n.ensures refl in
    let e = c.in_err-end.field-0.0 in
    let is : c.from_residual-in_err-end.result ≡ Err (Refused e) = search rules in
    let built = c.in_err-end.ensures in
    rw (is, built_bytes 65537 most_pairs c.args.text.now c.if-text-gt65536.false held) (tt, built.0, built.1)

pub returns : goal.returns
returns c =
    let held : PairsHeld c.args.text.now most_pairs c.in_ok-n.n c.read_list.new.codes c.read_list.new.schedules = pairs_held most_pairs (omega arith) (omega arith) c.in_ok-n.ensures refl in
    rw (built_bytes 65537 most_pairs c.args.text.now c.if-text-gt65536.false held) c.in_ok-end.ensures
