-- What the step below set_integer answers: the word of an integer, if there is one.
use Rattle.std.specs.Prelude.{ℕ, cond, ℤ, Option, Some, None}
use Rattle.model.specs.Values.{in_range, tag}

unfoldable pub tagged : ℤ → Option ℕ
tagged v = cond (in_range v) (Some (tag v)) None
