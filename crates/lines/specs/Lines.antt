-- Lines of text: two numbers, and a refusal (document 01, "The program that lists"; document 02, Change 1).
-- A byte is a number below 256: 32 is a space, 10 the newline that ends a line.
use Rattle.std.specs.Prelude.{ℕ, List, [], ◌∷◌, ◌++◌}
use Rattle.prelude.specs.Pairs.{Pair}
use Rattle.decimal.specs.Decimal.{decimal}

abbrev pub space : List ℕ
space = 32 ∷ []

abbrev pub newline : List ℕ
newline = 10 ∷ []

-- a code, a byte that parts it from its schedule, and the schedule
unfoldable pub pair_line : ℕ → ℕ → ℕ → List ℕ
unfolding decimal
pair_line separator code schedule = decimal code ++ (separator ∷ decimal schedule ++ newline)

-- such a line for each pair, in their order
unfoldable pub pair_lines : ℕ → List Pair → List ℕ
unfolding pair_line
pair_lines separator [] = []
pair_lines separator (r ∷ pairs) = pair_line separator r.code r.schedule ++ pair_lines separator pairs

-- "refused"
abbrev pub refused_name : List ℕ
refused_name = 114 ∷ 101 ∷ 102 ∷ 117 ∷ 115 ∷ 101 ∷ 100 ∷ []

-- refused NUMBER VALUE
unfoldable pub refused_line : ℕ → ℕ → List ℕ
unfolding decimal
refused_line number value = refused_name ++ (space ++ (decimal number ++ (space ++ (decimal value ++ newline))))
