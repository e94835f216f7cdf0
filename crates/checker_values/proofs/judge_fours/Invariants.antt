-- `checker_values::judge_fours` meets its contract. Invariant: the words passed, by the verdict, and the words
-- left are values exactly where all are.
use mathlib.Core.Path.{◌≡◌}
use mathlib.Core.Bool.{◌&&◌}
use lib.ListN.{length}
use Rattle.model.specs.Soundness.{all}
use Rattle.checker_marks.specs.Asked.{is_value}
use Rattle.checker_marks.specs.Verdicts.{holds}
use Rattle.checker_values.proofs.judge_fours.Given as goal

abbrev pub invariant-loop-left : goal.invariant-loop-left
invariant-loop-left l = (holds l.verdict && all (is_value l.marks) l.left) ≡ all (is_value l.marks) l.row

abbrev pub decreases-loop-left : goal.decreases-loop-left
decreases-loop-left l = length l.left
