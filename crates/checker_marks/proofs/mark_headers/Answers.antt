-- `checker_marks::mark_headers` meets its contract: it stops where nothing is left to mark.
use Prim.Native.Nat.{ℕ}
use native.Mathlib.Omega.{arith}
use mathlib.Core.Path.{sym, ap, ◌∙◌}
use mathlib.Core.List.{List}
use Rattle.model.specs.Headers.{tuple}
use Rattle.checker_marks.specs.Marks.{marked_from}
use Rattle.checker_marks.proofs.Turns.{mark-ended, mark-stopped}
use Rattle.checker_marks.proofs.mark_headers.Goals as goal

pub returns-then-not-is_header : goal.returns-then-not-is_header
returns-then-not-is_header c =
    let p = c.args.part in
    let none = sym c.is_header.ensures ∙ c.if-not-is_header.true in
    sym (mark-stopped tuple p _ c.loop-at.heap c.loop-at.at (omega arith) none) ∙ c.loop-at.invariant.left
    ∙ ap (λ (H : List ℕ). marked_from tuple H p p.first.0) c.set_mark.ensures

pub returns : goal.returns
returns c =
    let p = c.args.part in
    sym (mark-ended tuple p _ c.loop-at.heap c.loop-at.at (omega arith)) ∙ c.loop-at.invariant.left
    ∙ ap (λ (H : List ℕ). marked_from tuple H p p.first.0) c.set_mark.ensures
