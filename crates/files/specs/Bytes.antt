-- The words of a table file, and its bytes (document 01, "Words of a table").
use Rattle.std.specs.Prelude.{ℕ, ◌+◌, ◌*◌, ◌/◌, ◌%◌, List, [], ◌∷◌, ◌≡◌, length, take}
use Rattle.prelude.specs.Answers.{over}

-- the words of a file: four bytes each, least byte first; a last part of less than four bytes is no word
unfoldable pub words_of : List ℕ → List ℕ
words_of [] = []
words_of (a ∷ []) = []
words_of (a ∷ b ∷ []) = []
words_of (a ∷ b ∷ c ∷ []) = []
words_of (a ∷ b ∷ c ∷ d ∷ bytes) = (a + 256 * b + 65536 * c + 16777216 * d) ∷ words_of bytes

-- the bytes of words: four for each, least byte first
unfoldable pub bytes_of : List ℕ → List ℕ
bytes_of [] = []
bytes_of (w ∷ words) = (w % 256) ∷ (w / 256 % 256) ∷ (w / 65536 % 256) ∷ (w / 16777216 % 256) ∷ bytes_of words

-- the words of bytes, as many as fit, written over the first of the lent words; the answer is their number
pub record WordsFilled (bytes old : List ℕ) (answer : ℕ) (new : List ℕ) : Type 0 where
  pub count : answer ≡ length (take (length old) (words_of bytes))
  pub words : new ≡ over (take (length old) (words_of bytes)) old

-- the bytes of words, of as many whole words as fit, written over the first of the lent bytes; the answer is their number
pub record BytesFilled (words old : List ℕ) (answer : ℕ) (new : List ℕ) : Type 0 where
  pub count : answer ≡ length (bytes_of (take (length old / 4) words))
  pub bytes : new ≡ over (bytes_of (take (length old / 4) words)) old
