-- `writer::write::write_front` meets its contract: the parts for the ends and for the multipliers are lent, and come back with them.
use Prim.Native.Nat.{◌+◌, ◌≤◌}
use native.Mathlib.Omega.{arith}
use lib.ListN.{length}
use Rattle.writer.proofs.Fronts.{ends_back, ones_back}
use Rattle.writer.proofs.write.write_front.Goals as goal

pub returns : goal.returns
returns c =
    let room : 3 + c.args.shape.codes ≤ length c.args.words.now = omega (arith, c.requires.words_len) in
    ones_back c.args.shape c.args.loads.now _ c.requires.codes_value _ c.requires.words_len
    (ends_back c.args.shape _ c.args.loads.now _ room c.write_header.ensures _ c.write_ends.ensures)
    _ (c.fill.ensures.after (λ y e. e))
