-- Lists by their function: `tabulate f n` has n elements, and element i is f i. All else follows by that.
use Prim.Native.Nat.{ℕ, zero, suc, ◌+◌, ◌<◌, ◌≤◌}
use native.Mathlib.Decide.{ℕ_discrete}
use native.Mathlib.Nat.{add-zero, add-suc}
use native.Mathlib.Numerals.{add-one}
use native.Mathlib.Omega.{arith}
use mathlib.Core.List.{List, [], ◌∷◌, ◌++◌, append_assoc, append-nil}
use mathlib.Core.Path.{◌≡◌, refl, sym, ap, ap₂, ◌∙◌}
use lib.ListN.{length, get_or, take, drop, set, replicate, length-append, length-drop, length-set, length-replicate, get_or-replicate, get_or-append}
use lib.Seq.{length-take-le, get_or-take, get_or-drop, ext_get_or, get_or_at, get_or-append-add, get_or-set_same, get_or-set_other, drop-cons, set_at}
use Rattle.prelude.specs.Answers.{over}
use Rattle.prelude.specs.Tabulate.{tabulate}

pub tabulate_length : (f : ℕ → ℕ) (n : ℕ) → length (tabulate f n) ≡ n
unfolding tabulate
tabulate_length f zero = refl
tabulate_length f (suc n) = omega (arith, length-append (tabulate f n) (f n ∷ []), tabulate_length f n)

pub tabulate_at : (f : ℕ → ℕ) (n i : ℕ) → i < n → get_or (tabulate f n) i 0 ≡ f i
unfolding tabulate
tabulate_at f zero i h = absurd (omega arith)
tabulate_at f (suc n) i h =
    elim (ℕ_discrete i n) [
      | yes e ↦ get_or_at (tabulate f n) (f n) [] 0 i (tabulate_length f n ∙ sym e) ∙ ap f (sym e)
      | no ne ↦
          get_or-append (tabulate f n) (f n ∷ []) 0 i (omega (arith, tabulate_length f n))
          ∙ tabulate_at f n i (omega arith)
    ]

-- a list with these elements
pub tabulate_is : (f : ℕ → ℕ) (s : List ℕ) → ((i : ℕ) → i < length s → get_or s i 0 ≡ f i) → s ≡ tabulate f (length s)
tabulate_is f s each =
    ext_get_or 0 s (tabulate f (length s)) (sym (tabulate_length f (length s)))
    (λ i h. each i h ∙ sym (tabulate_at f (length s) i h))

pub tabulate_ext : (f g : ℕ → ℕ) (n : ℕ) → ((i : ℕ) → i < n → f i ≡ g i) → tabulate f n ≡ tabulate g n
unfolding tabulate
tabulate_ext f g zero same = refl
tabulate_ext f g (suc n) same =
    ap₂ (λ (s : List ℕ) (a : ℕ). s ++ (a ∷ [])) (tabulate_ext f g n (λ i h. same i (omega arith))) (same n (omega arith))

-- the first m, and the n after them
pub tabulate_append : (f : ℕ → ℕ) (m n : ℕ) → tabulate f (m + n) ≡ tabulate f m ++ tabulate (λ i. f (m + i)) n
unfolding tabulate
tabulate_append f m zero = rw (add-zero m) (sym (append-nil (tabulate f m)))
tabulate_append f m (suc n) =
    rw (add-suc m n, tabulate) (rw (tabulate_append f m n) (append_assoc (tabulate f m) (tabulate (λ i. f (m + i)) n) (f (m + n) ∷ [])))

-- read from a run of words: element i, and what stands after all n
pub tabulate_head : (f : ℕ → ℕ) (n i : ℕ) (rest : List ℕ) → i < n → get_or (tabulate f n ++ rest) i 0 ≡ f i
tabulate_head f n i rest h =
    get_or-append (tabulate f n) rest 0 i (omega (arith, tabulate_length f n)) ∙ tabulate_at f n i h

pub tabulate_past : (f : ℕ → ℕ) (n i : ℕ) (rest : List ℕ) → get_or (tabulate f n ++ rest) (n + i) 0 ≡ get_or rest i 0
tabulate_past f n i rest =
    ap (λ (m : ℕ). get_or (tabulate f n ++ rest) (m + i) 0) (sym (tabulate_length f n)) ∙ get_or-append-add (tabulate f n) rest i 0

-- a part of a list
pub part_tabulate :
    (s : List ℕ) (m n : ℕ) → m + n ≤ length s → take n (drop m s) ≡ tabulate (λ i. get_or s (m + i) 0) n
part_tabulate s m n h =
    let size : length (take n (drop m s)) ≡ n = length-take-le n (drop m s) (omega (arith, length-drop m s)) in
    tabulate_is (λ i. get_or s (m + i) 0) (take n (drop m s)) (λ i l. get_or-take n (drop m s) i 0 (omega arith) ∙ get_or-drop m s i 0)
    ∙ ap (tabulate (λ i. get_or s (m + i) 0)) size

-- n zeros
pub tabulate_zeros : (f : ℕ → ℕ) (n : ℕ) → ((i : ℕ) → i < n → f i ≡ 0) → replicate n 0 ≡ tabulate f n
tabulate_zeros f n zeros =
    ext_get_or 0 (replicate n 0) (tabulate f n) (length-replicate {A = ℕ} n 0 ∙ sym (tabulate_length f n))
    (λ i h.
    let l : i < n = omega (arith, length-replicate {A = ℕ} n 0) in
    get_or-replicate n i 0 0 l ∙ sym (zeros i l) ∙ sym (tabulate_at f n i l))

-- one element stored
pub tabulate_set :
    (f g : ℕ → ℕ) (n i : ℕ) → i < n → ((j : ℕ) → j < n → (j ≡ i → ⊥) → g j ≡ f j) → set (tabulate f n) i (g i) ≡ tabulate g n
tabulate_set f g n i h other =
    let size : length (set (tabulate f n) i (g i)) ≡ n = length-set (tabulate f n) i (g i) ∙ tabulate_length f n in
    ext_get_or 0 (set (tabulate f n) i (g i)) (tabulate g n) (size ∙ sym (tabulate_length g n))
    (λ j l.
    let m : j < n = omega arith in
    elim (ℕ_discrete j i) [
      | yes e ↦
          ap (λ (x : ℕ). get_or (set (tabulate f n) i (g i)) x 0) e
          ∙ get_or-set_same (tabulate f n) i (g i) 0 (omega (arith, tabulate_length f n))
          ∙ ap g (sym e)
          ∙ sym (tabulate_at g n j m)
      | no ne ↦
          get_or-set_other (tabulate f n) i j (g i) 0 ne ∙ tabulate_at f n j m ∙ sym (other j m ne) ∙ sym (tabulate_at g n j m)
    ])

-- ---- filled front to back

-- the first i places hold f 0, f 1, .., and the later ones are kept
pub record TabulatedTo (f : ℕ → ℕ) (i : ℕ) (old now : List ℕ) : Type 0 where
  pub memory : now ≡ tabulate f i ++ drop i old
  pub room : i ≤ length old

pub tabulated_none : (f : ℕ → ℕ) (old : List ℕ) → TabulatedTo f 0 old old
unfolding tabulate
tabulated_none f old = record { memory = refl; room = omega arith }

module _ {f : ℕ → ℕ} {i : ℕ} {old now : List ℕ} (l : TabulatedTo f i old now) where
  pub tabulated_kept : length now ≡ length old
  tabulated_kept =
      ap length l.memory ∙ omega (arith, l.room, length-append (tabulate f i) (drop i old), tabulate_length f i, length-drop i old)

  pub tabulated_more : i < length old → TabulatedTo f (i + 1) old (set now i (f i))
  unfolding tabulate
  tabulated_more h =
      record {
        memory =
            rw (add-one i, l.memory, drop-cons old i 0 h)
            (set_at (tabulate f i) (get_or old i 0) (drop (suc i) old) (f i) i (tabulate_length f i)
            ∙ sym (append_assoc (tabulate f i) (f i ∷ []) (drop (suc i) old)));
        room = omega arith;
      }

  pub tabulated_all : now ≡ over (tabulate f i) old
  tabulated_all = rw (tabulate_length f i) l.memory
