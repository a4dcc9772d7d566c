-- A piece that is put after the text in lent bytes.
use Rattle.std.specs.Prelude.{ℕ, List, ◌≡◌}
use Rattle.decimal.specs.code.Added.{Added}
use Rattle.decimal.specs.declared.Text.{Text}

-- the bytes are the same lent ones, and the piece stands from the end of the text on, which is now past it
pub record Put (piece : List ℕ) (old new : Text) : Type 0 where
  pub same : new.bytes.ghost_name ≡ old.bytes.ghost_name
  pub added : Added piece old.end old.bytes.now new.end new.bytes.now
