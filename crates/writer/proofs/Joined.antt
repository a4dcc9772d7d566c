-- Lists written one after the other.
use Prim.Native.Nat.{ℕ, zero, suc, ◌+◌, ◌-◌, ◌<◌}
use mathlib.Core.List.{List, ◌++◌, append_assoc, append-nil}
use mathlib.Core.Path.{◌≡◌, refl, sym, ap, ap₂, ◌∙◌}
use native.Mathlib.Nat.{add-zero, add-suc}
use native.Mathlib.Omega.{arith}
use lib.ListN.{length, length-append}
use Rattle.hash.specs.Hash.{sum}
use Rattle.writer.specs.code.Writing.{joined}

pub joined_ext : (f g : ℕ → List ℕ) (n : ℕ) → ((i : ℕ) → i < n → f i ≡ g i) → joined f n ≡ joined g n
unfolding joined
joined_ext f g zero same = refl
joined_ext f g (suc n) same =
    ap₂ (λ (s t : List ℕ). s ++ t) (joined_ext f g n (λ i h. same i (omega arith))) (same n (omega arith))

joined_append : (f : ℕ → List ℕ) (m n : ℕ) → joined f (m + n) ≡ joined f m ++ joined (λ i. f (m + i)) n
unfolding joined
joined_append f m zero = rw (add-zero m) (sym (append-nil (joined f m)))
joined_append f m (suc n) = rw (add-suc m n, joined) (rw (joined_append f m n) (append_assoc (joined f m) (joined (λ i. f (m + i)) n) (f (m + n))))

-- what stands before one of them, that one, and what stands after it
abbrev pub after : (ℕ → List ℕ) → ℕ → ℕ → List ℕ
after f n j = joined (λ i. f (suc j + i)) (n - suc j)

pub joined_split : (f : ℕ → List ℕ) (n j : ℕ) → j < n → joined f n ≡ joined f j ++ (f j ++ after f n j)
unfolding joined
joined_split f n j l =
    let e : n ≡ suc j + (n - suc j) = omega arith in
    ap (joined f) e ∙ joined_append f (suc j) (n - suc j) ∙ append_assoc (joined f j) (f j) (after f n j)

pub after_ext : (f g : ℕ → List ℕ) (n j : ℕ) → ((i : ℕ) → i < n → (i ≡ j → ⊥) → f i ≡ g i) → after f n j ≡ after g n j
after_ext f g n j same =
    joined_ext (λ i. f (suc j + i)) (λ i. g (suc j + i)) (n - suc j) (λ i l. same (suc j + i) (omega arith) (λ e. omega arith))

pub joined_length : (f : ℕ → List ℕ) (g : ℕ → ℕ) (n : ℕ) → ((i : ℕ) → i < n → length (f i) ≡ g i) → length (joined f n) ≡ sum g n
unfolding joined sum
joined_length f g zero each = refl
joined_length f g (suc n) each =
    omega (arith, length-append (joined f n) (f n), joined_length f g n (λ i l. each i (omega arith)), each n (omega arith))
