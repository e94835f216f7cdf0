-- `checker_marks::marks::Marks::judge` meets its contract: by the law of a word that is held against the marks without a jump.
use native.Mathlib.Omega.{arith}
use mathlib.Core.Path.{◌∙◌}
use mathlib.Core.Logic.{inl, inr}
use Rattle.checker_marks.proofs.Judging.{Capped, Looked, judged}
use Rattle.checker_marks.proofs.marks.Marks.judge.Goals as goal
use Rattle.checker_marks.proofs.marks.Marks.judge.Goals.{then-word-lt-BELOW_FLOOR, else-word-lt-BELOW_FLOOR}
use Rattle.checker_marks.proofs.marks.Marks.judge.Goals.{then-turned-last, else-turned-last}

pub returns : goal.returns
returns c =
    -- the word capped, and where its mark is looked up
    let capped : Capped c.args.word c.if-word-lt-BELOW_FLOOR.capped =
    elim c.if-word-lt-BELOW_FLOOR.branch [
      | then-word-lt-BELOW_FLOOR w ↦ inl (omega (arith, w.if-word-lt-BELOW_FLOOR.true), w.capped-is)
      | else-word-lt-BELOW_FLOOR w ↦ inr (omega (arith, w.if-word-lt-BELOW_FLOOR.false), omega (arith, w.capped-is))
    ] in
    let looked : Looked c.args.self.free c.if-word-lt-BELOW_FLOOR.capped c.if-turned-last.i =
    elim c.if-turned-last.branch [
      | then-turned-last w ↦ inl (omega (arith, w.if-turned-last.true), omega (arith, w.i-is))
      | else-turned-last w ↦ inr (omega (arith, w.if-turned-last.false), omega (arith, w.i-is))
    ] in
    c.of_lowest.ensures ∙ judged _ _ c.args.self.ready _ _ _ capped looked _ _ (omega arith) (omega arith)
