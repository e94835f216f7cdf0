-- So many last digits of a number, with leading zeros where it has fewer.
use Rattle.std.specs.Prelude.{ℕ, zero, suc, ◌*◌, ◌/◌, ◌%◌, List, [], ◌∷◌, ◌++◌}
use Rattle.model.specs.Texts.{digit}

unfoldable pub padded : ℕ → ℕ → List ℕ
padded zero n = []
padded (suc k) n = padded k (n / 10) ++ (digit (n % 10) ∷ [])

-- 10 to the power k
unfoldable pub tens : ℕ → ℕ
tens zero = 1
tens (suc k) = 10 * tens k
