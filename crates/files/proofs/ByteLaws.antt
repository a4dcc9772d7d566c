-- The bytes of words one by one: each word has four, words written as bytes are read back as they were, and a loop writes those that fit.
use Prim.Native.Nat.{ℕ, suc, ◌+◌, ◌*◌, ◌/◌, ◌%◌, min, ◌<◌, ◌≤◌}
use mathlib.Core.List.{List, [], ◌∷◌, ◌++◌, append_assoc}
use mathlib.Core.Path.{◌≡◌, refl, sym, ◌∙◌}
use native.Mathlib.Nat.{div-div-eq-div-mul, mod-add-div, mod-eq_of_lt, min-le_left, min-le_right}
use native.Mathlib.Numerals.{add-one}
use native.Mathlib.Omega.{arith}
use lib.ListN.{length, get_or, take, drop, length-take, length-append, length-drop}
use lib.Seq.{take-length, take_all, take_at, take-suc, drop-append-add, drop-drop, get_or-take, length-take-le}
use Rattle.prelude.specs.Answers.{over}
use Rattle.files.specs.Bytes.{words_of, bytes_of, BytesFilled}

pub bytes_length : (words : List ℕ) → length (bytes_of words) ≡ 4 * length words
unfolding bytes_of
bytes_length [] = refl
bytes_length (w ∷ words) = omega (arith, bytes_length words)

bytes_append : (a b : List ℕ) → bytes_of (a ++ b) ≡ bytes_of a ++ bytes_of b
unfolding bytes_of
bytes_append [] b = refl
bytes_append (w ∷ a) b = rw (bytes_append a b)

-- a word below 2^32 is the sum of its bytes: each byte, with what stands above it, is the quotient before
sum_of : (w x y z a b c d : ℕ) → a + 256 * x ≡ w → b + 256 * y ≡ x → c + 256 * z ≡ y → d ≡ z → a + 256 * b + 65536 * c + 16777216 * d ≡ w
sum_of w x y z a b c d p q r e = omega arith

word_same : (w : ℕ) → w < 4294967296 → w % 256 + 256 * (w / 256 % 256) + 65536 * (w / 65536 % 256) + 16777216 * (w / 16777216 % 256) ≡ w
word_same w h =
    let second : w / 256 % 256 + 256 * (w / 65536) ≡ w / 256 = rw (← div-div-eq-div-mul w 256 256) (mod-add-div (w / 256) 256) in
    let third : w / 65536 % 256 + 256 * (w / 16777216) ≡ w / 65536 = rw (← div-div-eq-div-mul w 65536 256) (mod-add-div (w / 65536) 256) in
    let last : w / 16777216 < 256 = omega arith in
    sum_of w (w / 256) (w / 65536) (w / 16777216) _ _ _ _ (mod-add-div w 256) second third (mod-eq_of_lt last)

pub words_of_bytes : (words : List ℕ) → ((i : ℕ) → i < length words → get_or words i 0 < 4294967296) → words_of (bytes_of words) ≡ words
unfolding words_of bytes_of
words_of_bytes [] h = refl
words_of_bytes (w ∷ words) h =
    rw (word_same w (h 0 (omega arith)), words_of_bytes words (λ i l. h (suc i) (omega arith)))

-- and bytes that are whole words, made words and bytes again, are the same
pub bytes_of_words :
    (bytes : List ℕ) → ((i : ℕ) → i < length bytes → get_or bytes i 0 < 256) → length bytes % 4 ≡ 0 → bytes_of (words_of bytes) ≡ bytes
unfolding words_of bytes_of
bytes_of_words [] h e = refl
bytes_of_words (a ∷ []) h e = absurd (omega arith)
bytes_of_words (a ∷ b ∷ []) h e = absurd (omega arith)
bytes_of_words (a ∷ b ∷ c ∷ []) h e = absurd (omega arith)
bytes_of_words (a ∷ b ∷ c ∷ d ∷ bytes) h e =
    let w = a + 256 * b + 65536 * c + 16777216 * d in
    let first : a < 256 = h 0 (omega arith) in
    let second : b < 256 = h 1 (omega arith) in
    let third : c < 256 = h 2 (omega arith) in
    let fourth : d < 256 = h 3 (omega arith) in
    let above-first : w / 256 ≡ b + 256 * c + 65536 * d = omega arith in
    let above-second : w / 65536 ≡ c + 256 * d = omega arith in
    let above-third : w / 16777216 ≡ d = omega arith in
    let one : w % 256 ≡ a = omega arith in
    let two : w / 256 % 256 ≡ b = rw above-first (omega arith) in
    let three : w / 65536 % 256 ≡ c = rw above-second (omega arith) in
    let four : w / 16777216 % 256 ≡ d = rw above-third (omega arith) in
    rw (one, two, three, four, bytes_of_words bytes (λ i l. h (suc (suc (suc (suc i)))) (omega arith)) (omega arith))

-- the words that fit, which are n; the bytes of the first i of them are written
abbrev fitting : List ℕ → List ℕ → List ℕ
fitting words old = take (length old / 4) words

pub record BytesSoFar (words old : List ℕ) (n i : ℕ) (now : List ℕ) : Type 0 where
  pub count : n ≡ length (fitting words old)
  pub in_words : n ≤ length words
  pub in_bytes : 4 * n ≤ length old
  pub upto : i ≤ n
  pub written : now ≡ bytes_of (take i (fitting words old)) ++ drop (4 * i) old

-- the bytes of the first i words
done_length : {words old : List ℕ} {n i : ℕ} {now : List ℕ} → BytesSoFar words old n i now → length (bytes_of (take i (fitting words old))) ≡ 4 * i
done_length {words} {old} {i = i} f =
    bytes_length (take i (fitting words old)) ∙ rw (length-take-le i (fitting words old) (omega (arith, f.count)))

pub same_length : {words old : List ℕ} {n i : ℕ} {now : List ℕ} → BytesSoFar words old n i now → length now ≡ length old
same_length {old = old} {i = i} f = rw (f.written, length-append, done_length f, length-drop) (omega (arith, f.in_bytes))

module _ {words old : List ℕ} {n : ℕ} where
  pub bytes_start : n ≡ min (length old / 4) (length words) → BytesSoFar words old n 0 old
  unfolding bytes_of
  bytes_start e =
      record {
        count = e ∙ sym (length-take (length old / 4) words);
        in_words = omega (arith, min-le_right (length old / 4) (length words));
        in_bytes = omega (arith, min-le_left (length old / 4) (length words));
        upto = omega arith;
        written = refl;
      }

  pub bytes_more :
      {i : ℕ} {now new : List ℕ} → BytesSoFar words old n i now → i < n
      → new ≡ take (4 * i) now ++ (bytes_of (get_or words i 0 ∷ []) ++ drop (4 * i + 4) now) → BytesSoFar words old n (i + 1) new
  bytes_more {i} {now} {new} f h e =
      let done = bytes_of (take i (fitting words old)) in
      let size : length done ≡ 4 * i = done_length f in
      let front : take (4 * i) now ≡ done = rw f.written (take_at done _ _ size) in
      let next : 4 * (i + 1) ≡ length done + 4 = omega arith in
      let rest : drop (4 * i + 4) now ≡ drop (4 * (i + 1)) old =
      rw (f.written, next, ← size, drop-append-add done (drop (length done) old) 4, drop-drop 4 (length done) old) in
      let more : done ++ bytes_of (get_or words i 0 ∷ []) ≡ bytes_of (take (i + 1) (fitting words old)) =
      rw (add-one i, take-suc (fitting words old) i 0 (omega (arith, f.count)), get_or-take (length old / 4) words i 0 (omega (arith, f.in_bytes)))
      (sym (bytes_append (take i (fitting words old)) (get_or words i 0 ∷ []))) in
      let written : new ≡ bytes_of (take (i + 1) (fitting words old)) ++ drop (4 * (i + 1)) old =
      e ∙ rw (front, rest, ← more) (sym (append_assoc done (bytes_of (get_or words i 0 ∷ [])) (drop (4 * (i + 1)) old))) in
      record {
        count = f.count;
        in_words = f.in_words;
        in_bytes = f.in_bytes;
        upto = omega arith;
        written = written;
      }

  pub bytes_all : {i : ℕ} {now : List ℕ} → BytesSoFar words old n i now → n ≤ i → BytesFilled words old (4 * n) now
  bytes_all {i} f h =
      let all : i ≡ length (fitting words old) = omega (arith, f.count, f.upto) in
      let size = bytes_length (fitting words old) in
      record {
        count = omega (arith, f.count, size);
        bytes = f.written ∙ rw (all, take-length, size);
      }

-- where there is room for them, the bytes of all words are written
module _ {words old : List ℕ} {n : ℕ} {new : List ℕ} (f : BytesFilled words old n new) (h : 4 * length words ≤ length old) where
  all_fit : fitting words old ≡ words
  all_fit = take_all (length old / 4) words (omega arith)

  pub filled_number : n ≡ 4 * length words
  filled_number = f.count ∙ rw all_fit (bytes_length words)

  pub filled_over : new ≡ over (bytes_of words) old
  filled_over = f.bytes ∙ rw all_fit

  pub filled_bytes : take n new ≡ bytes_of words
  filled_bytes = rw (filled_over, filled_number) (take_at (bytes_of words) _ _ (bytes_length words))
