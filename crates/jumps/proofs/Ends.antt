-- A list taken from its last element to its first: what has been taken when i are left is `drop i`.
use Prim.Native.Nat.{ℕ, zero, suc, ◌+◌, ◌-◌, ◌<◌, ◌≤◌}
use native.Mathlib.Omega.{arith}
use native.Mathlib.Nat.{le_refl}
use mathlib.Core.List.{List, [], ◌∷◌}
use mathlib.Core.Path.{◌≡◌, ap, ◌∙◌}
use lib.ListN.{length, get_or, take, drop, length-drop}
use lib.Seq.{drop-cons, take-length}
use Rattle.hash.specs.Hash.{together}

-- one element more
pub drop_before : (s : List ℕ) (i : ℕ) → 0 < i → i ≤ length s → drop (i - 1) s ≡ get_or s (i - 1) 0 ∷ drop i s
drop_before s i pos le =
    let e : suc (i - 1) ≡ i = omega arith in
    drop-cons s (i - 1) 0 (omega arith) ∙ ap (λ (n : ℕ). get_or s (i - 1) 0 ∷ drop n s) e

-- what stands after the next element
pub rest_after : (s : List ℕ) (i : ℕ) → 0 < i → take (length s - (i - 1 + 1)) (drop (i - 1 + 1) s) ≡ drop i s
rest_after s i pos =
    let e : i - 1 + 1 ≡ i = omega arith in
    rw (e, ← length-drop i s) (take-length (drop i s))

-- codes that are left out put no pair together
pub together_drop : (p k w : ℕ) (s : List ℕ) (i : ℕ) → together p k w (drop i s) ≤ together p k w s
unfolding together
together_drop p k w s zero = le_refl (together p k w s)
together_drop p k w [] (suc i) = le_refl 0
together_drop p k w (a ∷ s) (suc i) = omega (arith, together_drop p k w s i)
