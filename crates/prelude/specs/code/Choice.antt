-- The numbers of which a test holds, as a branch-free loop lists them.
use Rattle.std.specs.Prelude.{ℕ, zero, suc, Bool, cond, List, [], ◌∷◌, ◌++◌}

-- those of the first n numbers that pass, by rising number
unfoldable pub chosen : (ℕ → Bool) → ℕ → List ℕ
chosen f zero = []
chosen f (suc n) = cond (f n) (chosen f n ++ (n ∷ [])) (chosen f n)
