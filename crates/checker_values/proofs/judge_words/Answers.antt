-- `checker_values::judge_words` meets its contract: the first four and the last four cover five to eight words.
use native.Mathlib.Omega.{arith}
use lib.ListN.{length}
use Prim.Native.Nat.{◌-◌}
use mathlib.Core.Path.{◌∙◌}
use Rattle.checker_marks.specs.Asked.{is_value}
use Rattle.checker_values.proofs.Verdicts.{covered}
use Rattle.checker_values.proofs.judge_words.Goals as goal

pub returns-then-n-le8 : goal.returns-then-n-le8
returns-then-n-le8 c =
    let row = c.args.row.now in
    c.bitand.ensures ∙ rw (c.judge_four-first.ensures, c.judge_four.ensures)
    (covered (is_value c.args.marks) row 4 (length row - 4) _ (omega arith) (omega arith))
