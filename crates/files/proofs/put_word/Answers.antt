-- `files::put_word` meets its contract: the bytes of a word by the library are its bytes.
use Prim.Native.Nat.{◌+◌, ◌-◌}
use mathlib.Core.Path.{◌≡◌, refl}
use native.Mathlib.Omega.{arith}
use lib.Seq.{drop-drop}
use Rattle.files.specs.Bytes.{bytes_of}
use Rattle.files.proofs.put_word.Goals as goal

pub returns : goal.returns
unfolding bytes_of
returns c =
    let part : c.args.i + 4 - c.args.i ≡ 4 = omega arith in
    rw (part, c.copy_from_slice.ensures.after, c.to_le_bytes.ensures, drop-drop 4 c.args.i c.args.bytes.now) refl
