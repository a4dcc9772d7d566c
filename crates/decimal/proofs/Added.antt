-- Pieces written one after the other, or one before the other: where the end of one is the place of the next, two pieces are one piece, their
-- concatenation.
-- A loop that writes carries `SoFar`: what it has written, followed by what is left, is the whole.
use Prim.Native.Nat.{ℕ, ◌+◌, ◌<◌, ◌≤◌}
use mathlib.Core.List.{List, [], ◌∷◌, ◌++◌, append_assoc, append-nil}
use mathlib.Core.Path.{◌≡◌, refl, sym, ◌∙◌, ap}
use native.Mathlib.Numerals.{add-one}
use native.Mathlib.Omega.{arith}
use lib.ListN.{length, take, drop, set, length-append, length-drop, take-append-drop}
use lib.Seq.{set_split, take-append-le, take-take, take_at, drop_at, drop-drop, length-take-le}
use Rattle.decimal.specs.code.Added.{Added}
use Rattle.decimal.specs.code.Put.{Put}
use Rattle.decimal.specs.declared.Text.{Text}

-- one word
pub one : (x at : ℕ) (old : List ℕ) → at < length old → Added (x ∷ []) at old (at + 1) (set old at x)
one x at old h = record { place = refl; fits = omega arith; memory = rw add-one (set_split old at x h) }

-- nothing
pub none : (at : ℕ) (old : List ℕ) → at ≤ length old → Added [] at old at old
none at old h = record { place = omega arith; fits = h; memory = sym (take-append-drop at old) }

module _ {piece : List ℕ} {at : ℕ} {old : List ℕ} {end : ℕ} {new : List ℕ} (a : Added piece at old end new) where
  front : length (take at old ++ piece) ≡ end
  front = rw (length-append, length-take-le at old (omega (arith, a.place, a.fits))) (sym a.place)

  parts : new ≡ (take at old ++ piece) ++ drop end old
  parts = rw append_assoc a.memory

  -- the memory keeps its length
  pub kept : length new ≡ length old
  kept = rw parts (rw (length-append, front, length-drop) (omega (arith, a.fits)))

  -- what stands up to the end, and after it
  up_to : take end new ≡ take at old ++ piece
  up_to = rw parts (take_at _ _ end front)

  after : (n : ℕ) → drop (end + n) new ≡ drop (end + n) old
  after n = rw (← drop-drop n end new, ← drop-drop n end old, parts, drop_at (take at old ++ piece) (drop end old) end front)

  -- what stands from the place on, and ahead of it
  from : drop at new ≡ piece ++ drop end old
  from = rw a.memory (drop_at (take at old) _ at (length-take-le at old (omega (arith, a.place, a.fits))))

  ahead : (n : ℕ) → n ≤ at → take n new ≡ take n old
  ahead n h =
      let within : n ≤ length (take at old) = rw (length-take-le at old (omega (arith, a.place, a.fits))) h in
      rw (a.memory, take-append-le n (take at old) _ within) (take-take n at old h)

-- two pieces, the second from the end of the first
pub both :
    {a b : List ℕ} {at : ℕ} {old : List ℕ} {mid : ℕ} {now : List ℕ} {end : ℕ} {new : List ℕ} → Added a at old mid now
    → Added b mid now end new → Added (a ++ b) at old end new
both {a} {b} {at} {old} {mid} {now} {end} {new} f s =
    record {
      place = rw length-append (omega (arith, f.place, s.place));
      fits = omega (arith, s.fits, kept f);
      memory = s.memory ∙ rw (up_to f, s.place, after f (length b)) (simp append_assoc);
    }

pub both_put : {a b : List ℕ} {old now new : Text} → Put a old now → Put b now new → Put (a ++ b) old new
both_put f s = record { same = s.same ∙ f.same; added = both f.added s.added }

-- two pieces, the first before the second, which was written first
pub before :
    {a b : List ℕ} {at : ℕ} {old : List ℕ} {mid : ℕ} {now : List ℕ} {end : ℕ} {new : List ℕ} → Added b mid old end now
    → Added a at now mid new → Added (a ++ b) at old end new
before {a} {b} {at} {old} {mid} {now} {end} {new} s f =
    record {
      place = rw length-append (omega (arith, f.place, s.place));
      fits = s.fits;
      memory = f.memory ∙ rw (ahead s at (omega (arith, f.place)), from s) (simp append_assoc);
    }

-- a piece that ends where one from `at` on does begins there
pub begins :
    {piece : List ℕ} {r : ℕ} {old : List ℕ} {end : ℕ} {new : List ℕ} {at : ℕ} → end ≡ at + length piece → Added piece r old end new
    → Added piece at old end new
begins {r = r} {at = at} e a = let same : r ≡ at = omega (arith, a.place) in rw same at a

-- after a part of the whole has been written from `at` on, the rest is left
pub record SoFar (whole rest : List ℕ) (at : ℕ) (old : List ℕ) (end : ℕ) (new : List ℕ) : Type 0 where
  pub done : List ℕ
  pub added : Added done at old end new
  pub left : done ++ rest ≡ whole

pub start : (whole : List ℕ) (at : ℕ) (old : List ℕ) → at ≤ length old → SoFar whole whole at old at old
start whole at old h = record { done = []; added = none at old h; left = refl }

-- one piece of the rest
pub more :
    {whole piece rest : List ℕ} {at : ℕ} {old : List ℕ} {mid : ℕ} {now : List ℕ} {end : ℕ} {new : List ℕ}
    → SoFar whole (piece ++ rest) at old mid now → Added piece mid now end new → SoFar whole rest at old end new
more {whole} {piece} {rest} s a =
    record { done = s.done ++ piece; added = both s.added a; left = rw append_assoc s.left }

-- where the whole fits, so does the next piece
pub next_fits :
    (piece rest : List ℕ) {whole : List ℕ} {at : ℕ} {old : List ℕ} {mid : ℕ} {now : List ℕ}
    → SoFar whole (piece ++ rest) at old mid now → at + length whole ≤ length old → mid + length piece ≤ length now
next_fits piece rest s h =
    omega (arith, s.added.place, kept s.added, simp length-append at (ap length s.left))

-- nothing is left
pub all : {whole : List ℕ} {at : ℕ} {old : List ℕ} {end : ℕ} {new : List ℕ} → SoFar whole [] at old end new → Added whole at old end new
all s = rw (sym s.left ∙ append-nil s.done) s.added
