-- What an order keeps of lists of anything, and of a list of codes: in another order it is one again.
use Prim.Native.Nat.{ℕ}
use native.Mathlib.Omega.{arith}
use mathlib.Core.List.Memᴰ
use mathlib.Core.List.{List, ◌∷◌, map, Memᴰ}
use mathlib.Core.List.Permᴰ
use mathlib.Core.List.{Permᴰ}
use mathlib.Core.Logic.{⊎_elim}
use mathlib.Core.Path.{sym, ap}
use Rattle.hash.specs.Hash.{Codes}
use Rattle.hash.proofs.Members.{codes_cons, codes_tail, codes_new}
use Rattle.hash.proofs.Orders.{perm_mem}

pub perm_map : {A B : Type 0} (f : A → B) {s r : List A} → Permᴰ s r → Permᴰ (map f s) (map f r)
perm_map f Permᴰ.nil = Permᴰ.nil
perm_map f (Permᴰ.cons e q) = Permᴰ.cons (ap f e) (perm_map f q)
perm_map f (Permᴰ.swap e g) = Permᴰ.swap (ap f e) (ap f g)
perm_map f (Permᴰ.trans q u) = Permᴰ.trans (perm_map f q) (perm_map f u)

-- two codes exchanged
codes_swap : {p a b : ℕ} {l : List ℕ} → Codes p (a ∷ b ∷ l) → Codes p (b ∷ a ∷ l)
codes_swap {p} {a} {b} {l} c =
    codes_cons (c.positive 1 (omega arith)) (c.below 1 (omega arith)) new
    (codes_cons (c.positive 0 (omega arith)) (c.below 0 (omega arith)) (λ m. codes_new c (Memᴰ.tail m)) (codes_tail (codes_tail c)))
  where
    new : Memᴰ b (a ∷ l) → ⊥
    new m = ⊎_elim (λ e. codes_new c (Memᴰ.head (sym e))) (codes_new (codes_tail c)) (Memᴰ.cases_cons m)

pub perm_codes : {p : ℕ} {s r : List ℕ} → Permᴰ s r → Codes p s → Codes p r
perm_codes Permᴰ.nil c = c
perm_codes (Permᴰ.cons e q) c =
    codes_cons (rw e at (c.positive 0 (omega arith))) (rw e at (c.below 0 (omega arith)))
    (λ m. codes_new c (Memᴰ.cast e (perm_mem (Permᴰ.symm q) m)))
    (perm_codes q (codes_tail c))
perm_codes (Permᴰ.swap e f) c = rw (← e, ← f) (codes_swap c)
perm_codes (Permᴰ.trans q u) c = perm_codes u (perm_codes q c)
