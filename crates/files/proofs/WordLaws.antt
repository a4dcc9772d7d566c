-- The words of bytes one by one: how many there are, which bytes each of them takes, and a loop that writes those that fit.
use Prim.Native.Nat.{ℕ, zero, suc, ◌+◌, ◌*◌, ◌/◌, min, ◌<◌, ◌≤◌}
use mathlib.Core.List.{List, [], ◌∷◌, ◌++◌}
use mathlib.Core.Path.{◌≡◌, refl, sym, ◌∙◌, ap}
use native.Mathlib.Nat.{suc-add, min-le_left, min-le_right}
use native.Mathlib.Numerals.{add-one}
use native.Mathlib.Omega.{arith}
use lib.ListN.{length, get_or, take, drop, set, length-take, length-set, length-append}
use lib.Seq.{take-length, take_all, take_at, get_or-take}
use Rattle.prelude.specs.Answers.{over}
use Rattle.files.specs.Bytes.{words_of, WordsFilled}
use Rattle.files.specs.code.Words.{word_at}

pub words_length : (bytes : List ℕ) → length (words_of bytes) ≡ length bytes / 4
unfolding words_of
words_length [] = omega arith
words_length (a ∷ []) = omega arith
words_length (a ∷ b ∷ []) = omega arith
words_length (a ∷ b ∷ c ∷ []) = omega arith
words_length (a ∷ b ∷ c ∷ d ∷ bytes) = omega (arith, words_length bytes)

-- word i takes the bytes from 4 i on
pub word_of : (bytes : List ℕ) (i : ℕ) → 4 * i + 4 ≤ length bytes → get_or (words_of bytes) i 0 ≡ word_at bytes (4 * i)
unfolding words_of
word_of [] i h = absurd (omega arith)
word_of (a ∷ []) i h = absurd (omega arith)
word_of (a ∷ b ∷ []) i h = absurd (omega arith)
word_of (a ∷ b ∷ c ∷ []) i h = absurd (omega arith)
word_of (a ∷ b ∷ c ∷ d ∷ bytes) zero h = refl
word_of (a ∷ b ∷ c ∷ d ∷ bytes) (suc i) h =
    let q : 4 * suc i ≡ suc (suc (suc (suc (4 * i)))) = omega arith in
    rw q (simp suc-add (word_of bytes i (omega arith)))

-- one word more
put_next :
    (new old : List ℕ) (i : ℕ) → i < length new → i < length old
    → set (take i new ++ drop i old) i (get_or new i 0) ≡ take (suc i) new ++ drop (suc i) old
put_next [] old i h l = absurd (omega arith)
put_next (x ∷ new) [] i h l = absurd (omega arith)
put_next (x ∷ new) (y ∷ old) zero h l = refl
put_next (x ∷ new) (y ∷ old) (suc i) h l = ap (λ (r : List ℕ). x ∷ r) (put_next new old i (omega arith) (omega arith))

-- the words of bytes that fit, which are n; the first i of them are written
abbrev fitting : List ℕ → List ℕ → List ℕ
fitting bytes old = take (length old) (words_of bytes)

pub record WordsSoFar (bytes old : List ℕ) (n i : ℕ) (now : List ℕ) : Type 0 where
  pub count : n ≡ length (fitting bytes old)
  pub in_bytes : 4 * n ≤ length bytes
  pub in_words : n ≤ length old
  pub upto : i ≤ n
  pub same_length : length now ≡ length old
  pub written : now ≡ take i (fitting bytes old) ++ drop i old

module _ {bytes old : List ℕ} {n : ℕ} where
  pub words_start : n ≡ min (length old) (length bytes / 4) → WordsSoFar bytes old n 0 old
  words_start e =
      record {
        count = e ∙ rw (length-take, words_length bytes);
        in_bytes = omega (arith, min-le_right (length old) (length bytes / 4));
        in_words = omega (arith, min-le_left (length old) (length bytes / 4));
        upto = omega arith;
        same_length = refl;
        written = refl;
      }

  pub words_more :
      {i word : ℕ} {now : List ℕ} → WordsSoFar bytes old n i now → i < n → word ≡ word_at bytes (4 * i) → WordsSoFar bytes old n (i + 1) (set now i word)
  words_more {i} {word} {now} f h e =
      let is : word ≡ get_or (fitting bytes old) i 0 =
      e ∙ sym (get_or-take (length old) (words_of bytes) i 0 (omega arith) ∙ word_of bytes i (omega arith)) in
      record {
        count = f.count;
        in_bytes = f.in_bytes;
        in_words = f.in_words;
        upto = omega arith;
        same_length = length-set now i word ∙ f.same_length;
        written = rw (is, f.written, add-one i) (put_next (fitting bytes old) old i (omega arith) (omega arith));
      }

  pub words_all : {i : ℕ} {now : List ℕ} → WordsSoFar bytes old n i now → n ≤ i → WordsFilled bytes old n now
  words_all {i} f h =
      let all : i ≡ length (fitting bytes old) = omega arith in
      record { count = f.count; words = f.written ∙ rw (all, take-length) }

-- what was filled is a part of the words, and all words of the bytes where there is room for them
module _ {bytes old : List ℕ} {n : ℕ} {new : List ℕ} (f : WordsFilled bytes old n new) where
  pub filled_fits : n ≤ length new
  filled_fits = omega (arith, f.count, simp length-append at (ap length f.words))

  module _ (h : length bytes / 4 ≤ length old) where
    all_fit : fitting bytes old ≡ words_of bytes
    all_fit = take_all (length old) (words_of bytes) (omega (arith, words_length bytes))

    pub filled_number : n ≡ length bytes / 4
    filled_number = f.count ∙ rw all_fit (words_length bytes)

    pub filled_over : new ≡ over (words_of bytes) old
    filled_over = f.words ∙ rw all_fit

    pub filled_whole : take n new ≡ words_of bytes
    filled_whole = rw (filled_over, filled_number) (take_at (words_of bytes) _ _ (words_length bytes))
