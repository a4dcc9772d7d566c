-- Lists that are written part by part: a part that was lent and has come back, a store in a later part, and a list written to its end.
use Prim.Native.Nat.{ℕ, zero, suc, ◌+◌, ◌-◌, ◌<◌}
use mathlib.Core.List.{List, [], ◌∷◌, ◌++◌, append-nil}
use mathlib.Core.Path.{◌≡◌, sym, ap, ◌∙◌}
use native.Mathlib.Nat.{suc-add}
use native.Mathlib.Omega.{arith}
use lib.ListN.{length, take, drop, set, replicate, replicate-append-replicate}
use lib.Seq.{take_at, drop_at, set-append_left, drop-length}
use Rattle.prelude.specs.Tabulate.{tabulate}
use Rattle.placing.specs.code.Block.{put_at}

-- the m from a on
module _ (words pre mid post : List ℕ) (is : words ≡ pre ++ (mid ++ post)) (a m : ℕ) (from : length pre ≡ a) (size : length mid ≡ m) where
  pub part_is : take m (drop a words) ≡ mid
  part_is = rw (is, drop_at pre (mid ++ post) a from) (take_at mid post m size)

  pub part_back : (new : List ℕ) → take a words ++ (new ++ drop m (drop a words)) ≡ pre ++ (new ++ post)
  part_back new =
      rw (is, take_at pre (mid ++ post) a from, drop_at pre (mid ++ post) a from)
      (ap (λ (s : List ℕ). pre ++ (new ++ s)) (drop_at mid post m size))

-- zeros, in two parts
pub zeros_split : (a b m : ℕ) → m ≡ a + b → replicate {A = ℕ} m 0 ≡ replicate a 0 ++ replicate b 0
zeros_split a b m e = ap (λ (i : ℕ). replicate {A = ℕ} i 0) e ∙ sym (replicate-append-replicate {A = ℕ} a b 0)

-- a store past the first n
pub set_past : (xs ys : List ℕ) (n i v : ℕ) → length xs ≡ n → set (xs ++ ys) (n + i) v ≡ xs ++ set ys i v
set_past [] ys n i v e = let z : n + i ≡ i = omega arith in ap (λ (m : ℕ). set ys m v) z
set_past (x ∷ xs) ys zero i v e = absurd (omega arith)
set_past (x ∷ xs) ys (suc n) i v e = rw (suc-add n i) (ap (λ (s : List ℕ). x ∷ s) (set_past xs ys n i v (omega arith)))

-- a store in the middle part
pub set_in :
    (pre mid post : List ℕ) (a i v : ℕ) → length pre ≡ a → i < length mid → set (pre ++ (mid ++ post)) (a + i) v ≡ pre ++ (set mid i v ++ post)
set_in pre mid post a i v from l =
    set_past pre (mid ++ post) a i v from ∙ ap (λ (s : List ℕ). pre ++ s) (set-append_left mid post i v l)

-- all of f 0, f 1, .. are written
pub written_all :
    (f : ℕ → ℕ) (j : ℕ) (words old : List ℕ) → words ≡ tabulate f j ++ drop j old → j ≡ length old → words ≡ tabulate f (length old)
written_all f j words old is end =
    is ∙ rw (end, drop-length old) (append-nil (tabulate f (length old)))

-- a part that comes back as long as it was lent
pub put_part : (a w : ℕ) (new words : List ℕ) → length new ≡ w → take a words ++ (new ++ drop (a + w - a) (drop a words)) ≡ put_at a new words
put_part a w new words same =
    let e : a + w - a ≡ length new = omega arith in ap (λ (m : ℕ). take a words ++ (new ++ drop m (drop a words))) e
