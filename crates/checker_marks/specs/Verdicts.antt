-- What a verdict says.
use Rattle.std.specs.Prelude.{Bool}
use Rattle.model.specs.Values.{is_odd}
use Rattle.checker_marks.specs.declared.verdict.Verdict.{Verdict}

-- yes: all words that it is on are values
abbrev pub holds : Verdict → Bool
holds v = is_odd v.bits
