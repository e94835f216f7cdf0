-- `checker_fields::Objects::judge_each` meets its contract: by one object more.
use native.Mathlib.Omega.{arith}
use Rattle.checker_fields.proofs.Turns.{passes_at}
use Rattle.checker_fields.proofs.Objects.judge_each.Goals as goal

pub loop-at-preserved : goal.loop-at-preserved
loop-at-preserved c =
    let judged = c.judge_object.ensures in
    let count = c.count_of.ensures.is in
    rw c.bitand-verdict.ensures
    (passes_at c.args.self _ _ _ c.loop-at.invariant c.requires.0 (omega arith) _ judged _ (omega arith))
