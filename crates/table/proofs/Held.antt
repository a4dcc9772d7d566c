-- What a cell holds, where each code has a cell: the value listed with the first code whose cell it is. Where the codes' cells differ, that
-- is the only such code. The cells are what remains of zeros when each value in turn is stored in its code's cell.
use Prim.Native.Nat.{ℕ, zero, suc, ◌<◌}
use native.Mathlib.Decide.{ℕ_discrete, dec_lt}
use native.Mathlib.Omega.{arith}
use mathlib.Core.Bool.{cond}
use mathlib.Core.List.{List, [], ◌∷◌}
use mathlib.Core.Logic.{◌⊎◌, inl, inr}
use mathlib.Core.Path.{◌≡◌, refl, sym, ap, ap₂, ◌∙◌}
use lib.Dec.{eqb}
use lib.ListN.{length, get_or, set, replicate}
use borrow.Author.Tests.{eq-eqb, ne_eqb}
use Rattle.prelude.specs.Pairs.{paired, value_where}
use Rattle.prelude.specs.Tabulate.{tabulate}
use Rattle.table.specs.TwoLevel.{held_at}
use Rattle.prelude.proofs.Tabulate.{tabulate_zeros, tabulate_set}

-- different codes of a list have different cells
abbrev pub Apart : (ℕ → ℕ) → List ℕ → Type 0
Apart cell codes =
    (x y : ℕ) → x < y → y < length codes → cell (get_or codes x 0) ≡ cell (get_or codes y 0) → ⊥

-- numbers f 0 to f (n - 1) that differ have their index from their value
pub same_index :
    (f : ℕ → ℕ) (n : ℕ) → ((x y : ℕ) → x < y → y < n → f x ≡ f y → ⊥) → (x y : ℕ) → x < n → y < n → f x ≡ f y → x ≡ y
same_index f n apart x y hx hy e =
    elim (ℕ_discrete x y) [
      | yes same ↦ same
      | no other ↦
          elim (dec_lt x y) [
            | yes lt ↦ absurd (apart x y lt hy e)
            | no ge ↦ absurd (apart y x (omega arith) hx (sym e))
          ]
    ]

-- the code with this index, of those whose cell is i the first, is listed with what the cell holds
pub record Holder (cell : ℕ → ℕ) (codes values : List ℕ) (i : ℕ) : Type 0 where
  pub index : ℕ
  pub in_list : index < length codes
  pub its_own : cell (get_or codes index 0) ≡ i
  pub holds : held_at cell codes values i ≡ get_or values index 0

-- only the codes' cells matter
pub held_same :
    (cell cell' : ℕ → ℕ) (codes values : List ℕ) (i : ℕ)
    → ((x : ℕ) → x < length codes → cell (get_or codes x 0) ≡ cell' (get_or codes x 0))
    → held_at cell codes values i ≡ held_at cell' codes values i
unfolding held_at paired value_where
held_same cell cell' [] values i same = refl
held_same cell cell' (a ∷ codes) [] i same = refl
held_same cell cell' (a ∷ codes) (v ∷ values) i same =
    ap₂ (λ (o r : ℕ). cond (eqb o i) v r) (same 0 (omega arith))
    (held_same cell cell' codes values i (λ x h. same (suc x) (omega arith)))

module _ (cell : ℕ → ℕ) where
  pub held_here :
      (a v : ℕ) (codes values : List ℕ) (i : ℕ) → cell a ≡ i → held_at cell (a ∷ codes) (v ∷ values) i ≡ v
  unfolding held_at paired value_where
  held_here a v codes values i e = rw (eq-eqb (cell a) i e)

  pub held_later :
      (a v : ℕ) (codes values : List ℕ) (i : ℕ) → (cell a ≡ i → ⊥)
      → held_at cell (a ∷ codes) (v ∷ values) i ≡ held_at cell codes values i
  unfolding held_at paired value_where
  held_later a v codes values i ne = rw (ne_eqb (cell a) i ne)

  -- nobody's cell is empty
  pub held_none :
      (codes values : List ℕ) (i : ℕ) → ((x : ℕ) → x < length codes → cell (get_or codes x 0) ≡ i → ⊥)
      → held_at cell codes values i ≡ 0
  unfolding held_at paired value_where
  held_none [] values i none = refl
  held_none (a ∷ codes) [] i none = refl
  held_none (a ∷ codes) (v ∷ values) i none =
      held_later a v codes values i (none 0 (omega arith))
      ∙ held_none codes values i (λ x h. none (suc x) (omega arith))

  -- a cell has a holder, or it is nobody's
  pub holder :
      (codes values : List ℕ) (i : ℕ) → length values ≡ length codes
      → Holder cell codes values i ⊎ ((x : ℕ) → x < length codes → cell (get_or codes x 0) ≡ i → ⊥)
  holder [] values i same = inr (λ x h e. omega arith)
  holder (a ∷ codes) [] i same = absurd (omega arith)
  holder (a ∷ codes) (v ∷ values) i same =
      elim (ℕ_discrete (cell a) i) [
        | yes e ↦ inl (record { index = 0; in_list = omega arith; its_own = e; holds = held_here a v codes values i e })
        | no ne ↦
            elim (holder codes values i (omega arith)) [
              | inl r ↦
                  inl
                  (record {
                    index = suc r.index;
                    in_list = omega (arith, r.in_list);
                    its_own = r.its_own;
                    holds = held_later a v codes values i ne ∙ r.holds;
                  })
              | inr none ↦ inr (later a codes i ne none)
            ]
      ]
    where
      later :
          (a : ℕ) (codes : List ℕ) (i : ℕ) → (cell a ≡ i → ⊥)
          → ((x : ℕ) → x < length codes → cell (get_or codes x 0) ≡ i → ⊥)
          → (x : ℕ) → x < suc (length codes) → cell (get_or (a ∷ codes) x 0) ≡ i → ⊥
      later a codes i ne none zero h e = ne e
      later a codes i ne none (suc x) h e = none x (omega arith) e

  -- so in its cell each code's value is held
  pub held_own :
      (codes values : List ℕ) → length values ≡ length codes → Apart cell codes → (x : ℕ) → x < length codes
      → held_at cell codes values (cell (get_or codes x 0)) ≡ get_or values x 0
  held_own codes values same apart x h =
      elim (holder codes values (cell (get_or codes x 0)) same) [
        | inl r ↦
            r.holds
            ∙ ap (λ (y : ℕ). get_or values y 0)
            (same_index (λ y. cell (get_or codes y 0)) (length codes) apart r.index x r.in_list h r.its_own)
        | inr none ↦ absurd (none x h refl)
      ]

  -- all w cells: of no code, and with one code more, whose value is stored in its cell
  pub held_start : (w : ℕ) (values : List ℕ) → tabulate (held_at cell [] values) w ≡ replicate w 0
  unfolding held_at paired value_where
  held_start w values = sym (tabulate_zeros (held_at cell [] values) w (λ t l. refl))

  module _ (w a v : ℕ) (codes values : List ℕ) (t : ℕ) (own : t ≡ cell a) (l : t < w) where
    pub held_put : set (tabulate (held_at cell codes values) w) t v ≡ tabulate (held_at cell (a ∷ codes) (v ∷ values)) w
    held_put =
        ap (set (tabulate (held_at cell codes values) w) t) (sym (held_here a v codes values t (sym own)))
        ∙ tabulate_set (held_at cell codes values) (held_at cell (a ∷ codes) (v ∷ values)) w t l
        (λ j h ne. held_later a v codes values j (λ e. ne (sym e ∙ sym own)))

    -- and taken out again, where no other code has its cell
    pub held_taken :
        held_at cell codes values t ≡ 0 → set (tabulate (held_at cell (a ∷ codes) (v ∷ values)) w) t 0 ≡ tabulate (held_at cell codes values) w
    held_taken none =
        ap (set (tabulate (held_at cell (a ∷ codes) (v ∷ values)) w) t) (sym none)
        ∙ tabulate_set (held_at cell (a ∷ codes) (v ∷ values)) (held_at cell codes values) w t l
        (λ j h ne. sym (held_later a v codes values j (λ e. ne (sym e ∙ sym own))))
