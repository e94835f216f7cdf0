-- What the marks say of a word, once all are made.
use Rattle.std.specs.Prelude.{ℕ, Bool}
use Rattle.model.specs.Headers.{tuple}
use Rattle.checker_marks.specs.declared.marks.Marks.{Marks}
use Rattle.checker_marks.specs.Marks.{is_value_by_marks}

abbrev pub is_value : Marks → ℕ → Bool
is_value m = is_value_by_marks tuple m.bits.now m.free
