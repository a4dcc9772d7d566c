-- The order of a list makes no difference to its loads, its pairs put together, its cells, and the codes of a place.
-- Two lists without repetition that have the same members are orders of one another: each code of the first is pulled to the
-- front of the second, and by the lengths nothing is left over.
use Prim.Native.Nat.{ℕ, suc, ◌+◌, ◌*◌, ◌<◌, ◌≤◌}
use native.Mathlib.Omega.{arith}
use mathlib.Core.Bool.{Bool, true, false, cond}
use mathlib.Core.List.Memᴰ
use mathlib.Core.List.{List, [], ◌∷◌, ◌++◌, append-nil, Memᴰ}
use mathlib.Core.List.Permᴰ
use mathlib.Core.List.{Permᴰ}
use mathlib.Core.Logic.{inl, inr}
use mathlib.Core.Path.{◌≡◌, refl, sym, ap, ap₂, ◌∙◌}
use lib.Dec.{eqb}
use lib.ListN.{length, get_or, length-append}
use Rattle.hash.specs.Hash.{hash_of, load, members, together, sum, cells}
use Rattle.hash.proofs.Indicators.{indicator, indicator_sym}
use Rattle.hash.proofs.Sums.{sum_ext}
use Rattle.hash.proofs.Members.{at_mem}

-- ---- what an order keeps

pub perm_length : {A : Type 0} {s r : List A} → Permᴰ s r → length s ≡ length r
perm_length Permᴰ.nil = refl
perm_length (Permᴰ.cons e q) = ap suc (perm_length q)
perm_length (Permᴰ.swap e f) = refl
perm_length (Permᴰ.trans q u) = perm_length q ∙ perm_length u

pub perm_mem : {A : Type 0} {a : A} {s r : List A} → Permᴰ s r → Memᴰ a s → Memᴰ a r
perm_mem Permᴰ.nil m = m
perm_mem (Permᴰ.cons e q) m =
    elim (Memᴰ.cases_cons m) [ inl h ↦ Memᴰ.head (h ∙ e) | inr t ↦ Memᴰ.tail (perm_mem q t) ]
perm_mem (Permᴰ.swap e f) m =
    elim (Memᴰ.cases_cons m) [
      | inl h ↦ Memᴰ.tail (Memᴰ.head (h ∙ e))
      | inr t ↦ elim (Memᴰ.cases_cons t) [ inl h ↦ Memᴰ.head (h ∙ f) | inr u ↦ Memᴰ.tail (Memᴰ.tail u) ]
    ]
perm_mem (Permᴰ.trans q u) m = perm_mem u (perm_mem q m)

-- a code that a test keeps or leaves out, and two of them in either order
keep_perm : (b : Bool) (a : ℕ) {s r : List ℕ} → Permᴰ s r → Permᴰ (cond b (a ∷ s) s) (cond b (a ∷ r) r)
keep_perm true a q = Permᴰ.cons refl q
keep_perm false a q = q

keep_swap :
    (b c : Bool) (x y : ℕ) (l : List ℕ)
    → Permᴰ (cond b (x ∷ cond c (y ∷ l) l) (cond c (y ∷ l) l)) (cond c (y ∷ cond b (x ∷ l) l) (cond b (x ∷ l) l))
keep_swap true true x y l = Permᴰ.swap refl refl
keep_swap true false x y l = Permᴰ.refl (x ∷ l)
keep_swap false true x y l = Permᴰ.refl (y ∷ l)
keep_swap false false x y l = Permᴰ.refl l

exchanged : (x y l m r : ℕ) → x ≡ y → (x + l) + (m + r) ≡ (y + m) + (l + r)
exchanged x y l m r e = omega arith

module _ (p k w : ℕ) where
  pub perm_load : (t : ℕ) {s r : List ℕ} → Permᴰ s r → load p k w t s ≡ load p k w t r
  unfolding load
  perm_load t Permᴰ.nil = refl
  perm_load t (Permᴰ.cons e q) = ap₂ ◌+◌ (ap (λ (a : ℕ). indicator (eqb (hash_of p k w a) t)) e) (perm_load t q)
  perm_load t (Permᴰ.swap e f) =
      omega
      (arith, ap (λ (a : ℕ). indicator (eqb (hash_of p k w a) t)) e, ap (λ (a : ℕ). indicator (eqb (hash_of p k w a) t)) f)
  perm_load t (Permᴰ.trans q u) = perm_load t q ∙ perm_load t u

  pub perm_together : {s r : List ℕ} → Permᴰ s r → together p k w s ≡ together p k w r
  unfolding together load
  perm_together Permᴰ.nil = refl
  perm_together (Permᴰ.cons {b = b} {l₁ = s} e q) =
      ap₂ ◌+◌ (ap (λ (a : ℕ). load p k w (hash_of p k w a) s) e ∙ perm_load (hash_of p k w b) q) (perm_together q)
  perm_together (Permᴰ.swap {a = a} {b = b} {l = l} e f) =
      exchanged _ _ _ _ _ (indicator_sym (hash_of p k w b) (hash_of p k w a)) ∙ ap₂ (λ (x : ℕ) (y : ℕ). together p k w (x ∷ y ∷ l)) f e
  perm_together (Permᴰ.trans q u) = perm_together q ∙ perm_together u

  pub perm_members : (t : ℕ) {s r : List ℕ} → Permᴰ s r → Permᴰ (members p k w t s) (members p k w t r)
  unfolding members
  perm_members t Permᴰ.nil = Permᴰ.nil
  perm_members t (Permᴰ.cons {a = a} e q) = rw (← e) (keep_perm (eqb (hash_of p k w a) t) a (perm_members t q))
  perm_members t (Permᴰ.swap {a = a} {b = b} {l = l} e f) =
      rw (← e, ← f) (keep_swap (eqb (hash_of p k w a) t) (eqb (hash_of p k w b) t) a b (members p k w t l))
  perm_members t (Permᴰ.trans q u) = Permᴰ.trans (perm_members t q) (perm_members t u)

pub perm_cells : (p k : ℕ) {s r : List ℕ} → Permᴰ s r → cells p k s ≡ cells p k r
unfolding cells
perm_cells p k {s} {r} q =
    sum_ext _ (λ t. load p k (length s) t r * load p k (length s) t r) (length s)
    (λ t l. ap (λ (m : ℕ). m * m) (perm_load p k (length s) t q))
    ∙ ap (λ (n : ℕ). sum (λ t. load p k n t r * load p k n t r) n) (perm_length q)

-- ---- the same members make a permutation

-- no code twice
abbrev pub Distinct : List ℕ → Type 0
Distinct s = (i j : ℕ) → i < j → j < length s → get_or s i 0 ≡ get_or s j 0 → ⊥

-- a member, pulled to the front
pull : {a : ℕ} {r : List ℕ} → Memᴰ a r → (l : List ℕ) × Permᴰ r (a ∷ l)
pull (Memᴰ.head {xs = l} e) = (l, Permᴰ.cons (sym e) (Permᴰ.refl l))
pull (Memᴰ.tail {x = x} m) =
    let (l, q) = pull m in (x ∷ l, Permᴰ.trans (Permᴰ.cons refl q) (Permᴰ.swap refl refl))

-- a list without repetition, all of it in r, pulled to the front of r
pull_all :
    (s : List ℕ) {r : List ℕ} → Distinct s → ((a : ℕ) → Memᴰ a s → Memᴰ a r) → (l : List ℕ) × Permᴰ r (s ++ l)
pull_all [] {r} d sub = (r, Permᴰ.refl r)
pull_all (a ∷ s) {r} d sub =
    let (t, q) = pull (sub a (Memᴰ.head refl)) in
    let (l, u) = pull_all s {r = t} (λ i j lt h. d (suc i) (suc j) (omega arith) (omega arith)) (rest t q) in
    (l, Permᴰ.trans q (Permᴰ.cons refl u))
  where
    rest : (t : List ℕ) → Permᴰ r (a ∷ t) → (x : ℕ) → Memᴰ x s → Memᴰ x t
    rest t q x m =
        elim (Memᴰ.cases_cons (perm_mem q (sub x (Memᴰ.tail m)))) [
          | inl e ↦ let (i, h, f) = at_mem m in absurd (d 0 (suc i) (omega arith) (omega arith) (sym e ∙ sym f))
          | inr n ↦ n
        ]

nothing_left : (s l : List ℕ) → length (s ++ l) ≤ length s → s ++ l ≡ s
nothing_left s [] h = append-nil s
nothing_left s (a ∷ l) h = absurd (omega (arith, length-append s (a ∷ l)))

-- a list without repetition, all of it in r and as long as r, has all of r
pub nothing_missed :
    (s r : List ℕ) → Distinct s → ((a : ℕ) → Memᴰ a s → Memᴰ a r) → length r ≤ length s → (a : ℕ) → Memᴰ a r → Memᴰ a s
nothing_missed s r ds sr short a m =
    let (l, q) = pull_all s ds sr in
    perm_mem (rw (nothing_left s l (omega (arith, perm_length q))) at q) m

pub same_perm :
    (s r : List ℕ) → Distinct s → Distinct r → ((a : ℕ) → Memᴰ a s → Memᴰ a r)
    → ((a : ℕ) → Memᴰ a r → Memᴰ a s) → Permᴰ s r
same_perm s r ds dr sr rs =
    let (l, q) = pull_all s ds sr in
    let (m, u) = pull_all r dr rs in
    let short : length (s ++ l) ≤ length s = omega (arith, perm_length q, perm_length u, length-append r m) in
    Permᴰ.symm (rw (nothing_left s l short) at q)

-- so order makes no difference
module _
    (s r : List ℕ) (ds : Distinct s) (dr : Distinct r) (sr : (a : ℕ) → Memᴰ a s → Memᴰ a r)
    (rs : (a : ℕ) → Memᴰ a r → Memᴰ a s)
  where
    pub same_load : (p k w t : ℕ) → load p k w t s ≡ load p k w t r
    same_load p k w t = perm_load p k w t (same_perm s r ds dr sr rs)

    pub same_together : (p k w : ℕ) → together p k w s ≡ together p k w r
    same_together p k w = perm_together p k w (same_perm s r ds dr sr rs)

    pub same_cells : (p k : ℕ) → cells p k s ≡ cells p k r
    same_cells p k = perm_cells p k (same_perm s r ds dr sr rs)
