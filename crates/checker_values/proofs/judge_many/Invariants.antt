-- `checker_values::judge_many` meets its contract. Invariant: the words passed, by the verdict, and the words
-- left are values exactly where all are.
use mathlib.Core.Path.{◌≡◌}
use mathlib.Core.Bool.{◌&&◌}
use lib.ListN.{length}
use Rattle.model.specs.Soundness.{all}
use Rattle.checker_marks.specs.Asked.{is_value}
use Rattle.checker_marks.specs.Verdicts.{holds}
use Rattle.checker_values.proofs.judge_many.Given as goal

abbrev pub invariant-loop-first : goal.invariant-loop-first
invariant-loop-first l = (holds l.verdict && all (is_value l.marks) l.left) ≡ all (is_value l.marks) l.row

abbrev pub decreases-loop-first : goal.decreases-loop-first
decreases-loop-first l = length l.left
