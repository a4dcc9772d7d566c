-- The first words of a table: n, c and k, where the codes of each block end, and the multiplier 1 for every block.
use Prim.Native.Nat.{ℕ, zero, suc, ◌+◌, ◌*◌, ◌-◌, ◌≤◌}
use mathlib.Core.List.{List, [], ◌∷◌, ◌++◌, append_assoc}
use mathlib.Core.Path.{◌≡◌, refl, sym, ap, ap₂, ◌∙◌}
use native.Mathlib.Nat.{add-sub_cancel_left}
use native.Mathlib.Omega.{arith}
use lib.ListN.{length, get_or, take, drop, set, replicate, length-replicate, replicate-append-replicate}
use Rattle.hash.specs.Hash.{sum}
use Rattle.prelude.specs.Tabulate.{tabulate}
use Rattle.prelude.proofs.Tabulate.{tabulate_length}
use Rattle.writer.specs.code.Grouping.{start_at}
use Rattle.writer.specs.code.Writing.{joined, headed, empty_cells, begun}
use Rattle.writer.specs.declared.write.Shape.{Shape}
use Rattle.placing.proofs.Parts.{part_is, part_back, zeros_split}

pub header_set : (words : List ℕ) (m n c k : ℕ) → words ≡ replicate m 0 → 3 ≤ m → set (set (set words 0 n) 1 c) 2 k ≡ headed n c k m
header_set words m n c k zeros l =
    let e : m ≡ suc (suc (suc (m - 3))) = omega arith in
    ap (λ (s : List ℕ). set (set (set s 0 n) 1 c) 2 k) (zeros ∙ ap (λ (i : ℕ). replicate {A = ℕ} i 0) e)

-- ---- a part that is 0 is lent, and comes back with m words

module _ (words pre : List ℕ) (a m rest : ℕ) (is : words ≡ pre ++ (replicate m 0 ++ replicate rest 0)) (from : length pre ≡ a) where
  count_is : length (replicate {A = ℕ} m 0) ≡ a + m - a
  count_is = length-replicate {A = ℕ} m 0 ∙ sym (add-sub_cancel_left a m)

  lent_length : length (take (a + m - a) (drop a words)) ≡ m
  lent_length = ap length (part_is words pre (replicate m 0) (replicate rest 0) is a (a + m - a) from count_is) ∙ length-replicate {A = ℕ} m 0

  lent_back : (new : List ℕ) → take a words ++ (new ++ drop (a + m - a) (drop a words)) ≡ pre ++ (new ++ replicate rest 0)
  lent_back new = part_back words pre (replicate m 0) (replicate rest 0) is a (a + m - a) from count_is new

-- ---- the ends, after n, c and k

-- where the codes of block j end
abbrev pub end_at : List ℕ → ℕ → ℕ
end_at loads j = start_at loads j + get_or loads j 0

abbrev pub ended : Shape → List ℕ → ℕ → List ℕ
ended shape loads size =
    (shape.codes ∷ shape.cells ∷ shape.multiplier ∷ []) ++ (tabulate (end_at loads) shape.codes ++ replicate (size - (3 + shape.codes)) 0)

module _
    (shape : Shape) (size : ℕ) (loads words : List ℕ) (room : 3 + shape.codes ≤ size)
    (is : words ≡ headed shape.codes shape.cells shape.multiplier size)
  where
    abbrev n : ℕ
    n = shape.codes

    abbrev head : List ℕ
    head = shape.codes ∷ shape.cells ∷ shape.multiplier ∷ []

    headed_parts : words ≡ head ++ (replicate n 0 ++ replicate (size - (3 + n)) 0)
    headed_parts = is ∙ ap (λ (s : List ℕ). head ++ s) (zeros_split n (size - (3 + n)) (size - 3) (omega arith))

    pub ends_count : length (take (3 + n - 3) (drop 3 words)) ≡ n
    ends_count = lent_length words head 3 n (size - (3 + n)) headed_parts refl

    pub ends_back :
        (new : List ℕ) → new ≡ tabulate (end_at loads) (length (take (3 + n - 3) (drop 3 words)))
        → take 3 words ++ (new ++ drop (3 + n - 3) (drop 3 words)) ≡ ended shape loads size
    ends_back new New-is =
        lent_back words head 3 n (size - (3 + n)) headed_parts refl new
        ∙ ap (λ (s : List ℕ). head ++ (s ++ replicate (size - (3 + n)) 0)) (New-is ∙ ap (tabulate (end_at loads)) ends_count)

-- ---- the multipliers, after the ends

ones_are : (n : ℕ) → replicate n 1 ≡ tabulate (λ j. 1) n
unfolding tabulate
ones_are zero = refl
ones_are (suc n) =
    let e : suc n ≡ n + 1 = omega arith in
    ap (λ (m : ℕ). replicate m 1) e ∙ sym (replicate-append-replicate {A = ℕ} n 1 1) ∙ ap (λ (s : List ℕ). s ++ (1 ∷ [])) (ones_are n)

-- the cells of all blocks, when all are empty
cells_are : (loads : List ℕ) (n : ℕ) → replicate (start_at loads n) 0 ≡ joined (empty_cells loads) n
unfolding start_at sum joined
cells_are loads zero = refl
cells_are loads (suc n) =
    sym (replicate-append-replicate {A = ℕ} (sum (λ t. get_or loads t 0 * get_or loads t 0) n) (get_or loads n 0 * get_or loads n 0) 0)
    ∙ ap (λ (s : List ℕ). s ++ replicate (get_or loads n 0 * get_or loads n 0) 0) (cells_are loads n)

module _
    (shape : Shape) (loads words : List ℕ) (all : start_at loads shape.codes ≡ shape.cells) (size : ℕ)
    (size_is : size ≡ 3 + 2 * shape.codes + 2 * shape.cells) (is : words ≡ ended shape loads size)
  where
    abbrev m : ℕ
    m = shape.codes

    abbrev c : ℕ
    c = shape.cells

    abbrev front : List ℕ
    front = (shape.codes ∷ shape.cells ∷ shape.multiplier ∷ []) ++ tabulate (end_at loads) m

    front_length : length front ≡ 3 + m
    front_length = omega (arith, tabulate_length (end_at loads) m)

    ended_parts : words ≡ front ++ (replicate m 0 ++ replicate (c + c) 0)
    ended_parts = is ∙ ap (λ (s : List ℕ). front ++ s) (zeros_split m (c + c) (size - (3 + m)) (omega arith))

    ones_count : length (take (3 + m + m - (3 + m)) (drop (3 + m) words)) ≡ m
    ones_count = lent_length words front (3 + m) m (c + c) ended_parts front_length

    pub ones_back :
        (new : List ℕ) → new ≡ replicate (length (take (3 + m + m - (3 + m)) (drop (3 + m) words))) 1
        → take (3 + m) words ++ (new ++ drop (3 + m + m - (3 + m)) (drop (3 + m) words)) ≡ begun shape loads
    ones_back new New-is =
        let zeros : replicate {A = ℕ} c 0 ≡ joined (empty_cells loads) m = ap (λ (i : ℕ). replicate {A = ℕ} i 0) (sym all) ∙ cells_are loads m in
        lent_back words front (3 + m) m (c + c) ended_parts front_length new
        ∙ ap₂ (λ (s t : List ℕ). front ++ (s ++ t)) (New-is ∙ ap (λ (i : ℕ). replicate i 1) ones_count ∙ ones_are m)
        (sym (replicate-append-replicate {A = ℕ} c c 0) ∙ ap (λ (s : List ℕ). s ++ s) zeros)
        ∙ append_assoc (shape.codes ∷ shape.cells ∷ shape.multiplier ∷ []) (tabulate (end_at loads) m) _
