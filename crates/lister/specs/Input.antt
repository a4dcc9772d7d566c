-- What the listing program leaves in lent memory (document 01, "The program that lists"). Which bytes it reads is left open.
use Rattle.std.specs.Prelude.{List, ℕ, take}
use Rattle.io.specs.Counts.{IsPrefixLen}
use Rattle.prelude.specs.Limits.{most_pairs}
use Rattle.listing.specs.Listing.{FileListed}
use Rattle.lister.specs.declared.Lengths.{Lengths}

pub record InputListed (text : List ℕ) (r : Lengths) (bytes' text' : List ℕ) : Type 0 where
  -- as many bytes are read as are lent, or fewer
  pub input : IsPrefixLen r.read bytes'
  -- the text and its length are the listing of the bytes that were read
  pub output : FileListed 65537 most_pairs (take r.read bytes') text r.listed text'
  -- the text is a part of what was lent, so that it can be written
  pub part : IsPrefixLen r.listed text'
