-- `checker_marks::mark_each` meets its contract: by one turn of the walk.
use native.Mathlib.Omega.{arith}
use mathlib.Core.Path.{sym, ◌∙◌}
use Rattle.model.specs.Headers.{tuple}
use Rattle.checker_marks.proofs.Turns.{mark_turn, unmarked_mark, walked_on}
use Rattle.checker_marks.proofs.mark_each.Goals as goal

pub loop-at-preserved : goal.loop-at-preserved
loop-at-preserved c =
    let l = c.loop-at in
    let p = c.args.part in
    let is = c.set_mark.ensures in
    let head = sym c.is_header.ensures ∙ c.if-not-is_header.false in (
      walked_on tuple p _ _ l.heap l.at l.invariant.0 _ _ (omega arith) (
        omega arith,
        (
          rw is (unmarked_mark l.heap p l.at _ (omega arith) l.invariant.0.behind),
          rw is (mark_turn tuple p l.heap l.at (omega arith) head _ (omega (arith, c.count_of.ensures.is))),
        ),
      ),
      λ e. absurd (omega arith),
    )
