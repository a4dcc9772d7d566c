-- Table files: words as bytes and back, and the listing of a file of words.
use Prim.Native.Nat.{ℕ, ◌*◌, ◌/◌, ◌%◌}
use native.Mathlib.Omega.{arith}
use mathlib.Core.List.{List}
use mathlib.Core.Path.{◌≡◌, ◌∙◌}
use lib.ListN.{length, take}
use Rattle.files.specs.Bytes.{words_of, bytes_of}
use Rattle.files.proofs.ByteLaws as written
use Rattle.files.proofs.WordLaws as read
use Rattle.listing.proofs.FileLaws.{whole as whole_words}
use Rattle.demands.specs.Lists.{AllWords, AllBytes}
use Rattle.demands.specs.Theorems.{Files}

undone : (words : List ℕ) → AllWords words → words_of (bytes_of words) ≡ words
undone words all = written.words_of_bytes words (λ i l. omega (arith, all i l))

made_again : (bytes : List ℕ) → AllBytes bytes → length bytes % 4 ≡ 0 → bytes_of (words_of bytes) ≡ bytes
made_again bytes all e = written.bytes_of_words bytes (λ i l. omega (arith, all i l)) e

pub files : Files
files =
    record {
      number = read.words_length;
      least_first = λ bytes i l. read.word_of bytes i (omega arith);
      reads = λ bytes words n words' room r. (read.filled_number r room, read.filled_over r room);
      words_of_bytes = undone;
      bytes_of_words = made_again;
      written_read =
          λ words bytes n bytes' all room w words₀ m words' enough r.
          let file : take n bytes' ≡ bytes_of words = written.filled_bytes w room in
          let size : length (take n bytes') ≡ 4 * length words = rw file (written.bytes_length words) in
          let same : words_of (take n bytes') ≡ words = rw file (undone words all) in
          (omega (arith, read.filled_number r (omega arith)), read.filled_over r (omega arith) ∙ rw same);
      read_written =
          λ bytes words n words' all whole room r bytes₀ m bytes' enough w.
          let file : take n words' ≡ words_of bytes = read.filled_whole r room in
          let size : length (take n words') ≡ length bytes / 4 = rw file (read.words_length bytes) in
          let same : bytes_of (take n words') ≡ bytes = rw file (made_again bytes all whole) in
          (omega (arith, written.filled_number w (omega arith)), written.filled_over w (omega arith) ∙ rw same);
      lists =
          λ words all few.
          let size = written.bytes_length words in
          whole_words 65537 2048 (bytes_of words) (omega arith) (omega arith) ∙ rw (undone words all);
    }
