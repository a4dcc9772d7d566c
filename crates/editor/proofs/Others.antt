-- The pairs without a code, over plain lists: how many there are tells whether the code is among them, what is left is a list of codes again,
-- before which the code itself is new, and the order of the pairs is no matter.
use Prim.Native.Nat.{ℕ, suc, ◌<◌, ◌≤◌}
use native.Mathlib.Decide.{ℕ_discrete, dec_lt}
use native.Mathlib.Omega.{arith}
use mathlib.Core.Bool.{Bool, true, false, not, cond}
use mathlib.Core.List.Memᴰ
use mathlib.Core.List.Permᴰ
use mathlib.Core.List.{List, [], ◌∷◌, Memᴰ, Permᴰ}
use mathlib.Core.Logic.{⊎_elim}
use mathlib.Core.Path.{◌≡◌, refl, sym, ap, ◌∙◌}
use borrow.Author.Tests.{eq-eqb, ne_eqb, lt-ltb, le-ltb}
use lib.Dec.{eqb, ltb}
use lib.ListN.{length}
use Rattle.hash.specs.Hash.{Codes}
use Rattle.hash.proofs.Members.{codes_cons, codes_tail, codes_new}
use Rattle.prelude.specs.Pairs.{Pair, codes_of, pairs_where, among}
use Rattle.editor.specs.Edit.{without, with_pair}

-- a pair that a test keeps or leaves out, and two of them in either order
keep_perm : (b : Bool) (r : Pair) {s t : List Pair} → Permᴰ s t → Permᴰ (cond b (r ∷ s) s) (cond b (r ∷ t) t)
keep_perm true r q = Permᴰ.cons refl q
keep_perm false r q = q

keep_swap :
    (b c : Bool) (x y : Pair) (l : List Pair)
    → Permᴰ (cond b (x ∷ cond c (y ∷ l) l) (cond c (y ∷ l) l)) (cond c (y ∷ cond b (x ∷ l) l) (cond b (x ∷ l) l))
keep_swap true true x y l = Permᴰ.swap refl refl
keep_swap true false x y l = Permᴰ.refl (x ∷ l)
keep_swap false true x y l = Permᴰ.refl (y ∷ l)
keep_swap false false x y l = Permᴰ.refl l

ltb_suc : (a b : ℕ) → ltb (suc a) (suc b) ≡ ltb a b
ltb_suc a b =
    elim (dec_lt a b) [
      | yes l ↦ lt-ltb (suc a) (suc b) (omega arith) ∙ sym (lt-ltb a b l)
      | no g ↦ le-ltb (suc a) (suc b) (omega arith) ∙ sym (le-ltb a b (omega arith))
    ]

module _ (code : ℕ) where
  without_here : (r : Pair) (xs : List Pair) → r.code ≡ code → without code (r ∷ xs) ≡ without code xs
  unfolding without pairs_where
  without_here r xs e = rw (eq-eqb r.code code e)

  without_later : (r : Pair) (xs : List Pair) → (r.code ≡ code → ⊥) → without code (r ∷ xs) ≡ r ∷ without code xs
  unfolding without pairs_where
  without_later r xs ne = rw (ne_eqb r.code code ne)

  -- ---- how many

  pub without_le : (xs : List Pair) → length (without code xs) ≤ length xs
  unfolding without pairs_where
  without_le [] = omega arith
  without_le (x ∷ xs) =
      elim (ℕ_discrete x.code code) [
        | yes e ↦ rw (without_here x xs e) (omega (arith, without_le xs))
        | no ne ↦ rw (without_later x xs ne) (omega (arith, without_le xs))
      ]

  pub among_is : (xs : List Pair) → among code (codes_of xs) ≡ ltb (length (without code xs)) (length xs)
  unfolding without pairs_where among
  among_is [] = refl
  among_is (x ∷ xs) =
      elim (ℕ_discrete x.code code) [
        | yes e ↦
            rw (eq-eqb code x.code (sym e), without_here x xs e)
            (sym (lt-ltb (length (without code xs)) (suc (length xs)) (omega (arith, without_le xs))))
        | no ne ↦ rw (ne_eqb code x.code (λ e. ne (sym e)), without_later x xs ne) (among_is xs ∙ sym (ltb_suc (length (without code xs)) (length xs)))
      ]

  without_none : (xs : List Pair) → (Memᴰ code (codes_of xs) → ⊥) → without code xs ≡ xs
  unfolding without pairs_where
  without_none [] none = refl
  without_none (r ∷ xs) none =
      without_later r xs (λ e. none (Memᴰ.head (sym e)))
      ∙ ap (λ (s : List Pair). r ∷ s) (without_none xs (λ m. none (Memᴰ.tail m)))

  -- of different codes at most one is left out
  pub without_ge : {p : ℕ} (xs : List Pair) → Codes p (codes_of xs) → length xs ≤ suc (length (without code xs))
  unfolding without pairs_where
  without_ge [] c = omega arith
  without_ge (x ∷ xs) c =
      elim (ℕ_discrete x.code code) [
        | yes e ↦ rw (without_here x xs e, without_none xs (rw e at (codes_new c))) (omega arith)
        | no ne ↦ rw (without_later x xs ne) (omega (arith, without_ge xs (codes_tail c)))
      ]

  -- ---- which

  pub without_mem : {r : Pair} (xs : List Pair) → Memᴰ r (without code xs) → Memᴰ r xs × (r.code ≡ code → ⊥)
  unfolding without pairs_where
  without_mem [] m = absurd (Memᴰ.not-nil m)
  without_mem {r} (x ∷ xs) m =
      elim (ℕ_discrete x.code code) [
        | yes e ↦ let (n, other) = without_mem xs (rw (without_here x xs e) at m) in (Memᴰ.tail n, other)
        | no ne ↦
            ⊎_elim
            (λ same. (Memᴰ.head same, λ e. ne (ap (λ (y : Pair). y.code) (sym same) ∙ e)))
            (λ t. let (n, other) = without_mem xs t in (Memᴰ.tail n, other))
            (Memᴰ.cases_cons (rw (without_later x xs ne) at m))
      ]

  pub mem_without : {r : Pair} (xs : List Pair) → Memᴰ r xs → (r.code ≡ code → ⊥) → Memᴰ r (without code xs)
  unfolding without pairs_where
  mem_without [] m other = absurd (Memᴰ.not-nil m)
  mem_without {r} (x ∷ xs) m other =
      ⊎_elim
      (λ same.
      let e : r.code ≡ x.code = ap (λ (y : Pair). y.code) same in
      rw (without_later x xs (λ here. other (e ∙ here))) (Memᴰ.head same))
      (λ t.
      elim (ℕ_discrete x.code code) [
        | yes e ↦ rw (without_here x xs e) (mem_without xs t other)
        | no ne ↦ rw (without_later x xs ne) (Memᴰ.tail (mem_without xs t other))
      ])
      (Memᴰ.cases_cons m)

  -- a code of what is left is a code of the list, and another
  without_code : {a : ℕ} (xs : List Pair) → Memᴰ a (codes_of (without code xs)) → Memᴰ a (codes_of xs) × (a ≡ code → ⊥)
  without_code {a} xs m =
      let (r, n, same) = Memᴰ.of_map (λ (x : Pair). x.code) (without code xs) m in
      let (there, other) = without_mem xs n in
      (rw same at (Memᴰ.map (λ (x : Pair). x.code) there), λ e. other (same ∙ e))

  pub without_codes : {p : ℕ} (xs : List Pair) → Codes p (codes_of xs) → Codes p (codes_of (without code xs))
  unfolding without pairs_where
  without_codes [] c = c
  without_codes (x ∷ xs) c =
      let rest = without_codes xs (codes_tail c) in
      elim (ℕ_discrete x.code code) [
        | yes e ↦ rw (without_here x xs e) rest
        | no ne ↦
            rw (without_later x xs ne)
            (codes_cons (c.positive 0 (omega arith)) (c.below 0 (omega arith)) (λ m. codes_new c (without_code xs m).0) rest)
      ]

  pub with_codes :
      {p : ℕ} (schedule : ℕ) (xs : List Pair) → 0 < code → code < p → Codes p (codes_of xs) → Codes p (codes_of (with_pair code schedule xs))
  unfolding with_pair
  with_codes schedule xs pos below c = codes_cons pos below (λ m. (without_code xs m).1 refl) (without_codes xs c)

  -- ---- in another order

  pub without_perm : {s t : List Pair} → Permᴰ s t → Permᴰ (without code s) (without code t)
  unfolding without pairs_where
  without_perm Permᴰ.nil = Permᴰ.nil
  without_perm (Permᴰ.cons {a = a} e q) = rw (← e) (keep_perm (not (eqb a.code code)) a (without_perm q))
  without_perm (Permᴰ.swap {a = a} {b = b} {l = l} e f) =
      rw (← e, ← f) (keep_swap (not (eqb a.code code)) (not (eqb b.code code)) a b (without code l))
  without_perm (Permᴰ.trans q u) = Permᴰ.trans (without_perm q) (without_perm u)
