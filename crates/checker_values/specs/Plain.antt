-- Words that are values whatever is marked, and need no look at the marks.
use Rattle.std.specs.Prelude.{ℕ, Bool, ◌||◌}
use Rattle.model.specs.Values.{is_odd, is_null}

-- odd or 0
abbrev pub is_plain : ℕ → Bool
is_plain w = is_odd w || is_null w
