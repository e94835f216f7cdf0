-- `checker_marks::mark_alike` meets its contract: by one turn of the walk, where the word at hand is the one read.
use Prim.Native.Nat.{ℕ, ◌+◌, ◌/◌}
use native.Mathlib.Omega.{arith}
use mathlib.Core.Path.{◌≡◌, refl, sym, ap, ◌∙◌}
use lib.ListN.{length-set}
use lib.Seq.{get_or-set_same}
use Rattle.model.specs.Headers.{tuple}
use Rattle.model.specs.Words as words
use Rattle.checker_marks.specs.Marks.{part, mark_at}
use Rattle.checker_marks.proofs.Turns.{stored_turn, unmarked_less, unmarked_set}
use Rattle.checker_marks.proofs.mark_alike.Goals as goal
use Rattle.checker_marks.proofs.mark_alike.Goals.{then-next-place, else-next-place}

pub loop-at-preserved : goal.loop-at-preserved
loop-at-preserved c =
    let l = c.loop-at in
    let marks = c.args.part.marks.0 in
    let same : words.at l.heap l.at ≡ c.args.header = omega arith in
    let head = ap tuple.is_header same ∙ c.requires.6 in
    let count = c.count_of-size.ensures.is ∙ ap tuple.count_of (sym same) in (
      omega arith,
      λ e. absurd (omega arith),
      simp length-set l.invariant.2,
      omega arith,
      sym (get_or-set_same l.heap (marks + l.at / 32) _ 0 (omega arith)),
      λ first free d u.
          let p = part first free marks in
          let left = l.invariant.5 first free d u in
          let before : c.if-next-place.before ≡ words.at l.heap (mark_at p l.at) =
          elim c.if-next-place.branch [
            | then-next-place w ↦
                (let here : l.place ≡ l.at / 32 = omega (arith, w.if-next-place.true) in
                w.before-is ∙ l.invariant.4 ∙ ap (λ (n : ℕ). words.at l.heap (marks + n)) here)
            | else-next-place w ↦
                (w.before-is ∙ sym (left.0 (mark_at p l.at) (omega (arith, w.if-next-place.false)) (omega arith)))
          ] in (
            unmarked_set l.heap p l.place (l.at / 32) l.invariant.3 left.0 _,
            stored_turn tuple p l.heap l.at _ _ _ _ (omega arith) head (omega (arith, count)) refl (omega arith) before
                ∙ left.1,
          ),
    )

pub returns-then-heap-at-clause-behind : goal.returns-then-heap-at-clause-behind
returns-then-heap-at-clause-behind c =
    let p = c.args.part in
    let left = c.loop-at.invariant.5 p.first.0 p.free.0 c.requires.4 c.requires.1 in
    unmarked_less c.loop-at.heap p _ _ c.loop-at.invariant.3 left.0

pub returns-clause-behind : goal.returns-clause-behind
returns-clause-behind c =
    let p = c.args.part in
    let left = c.loop-at.invariant.5 p.first.0 p.free.0 c.requires.4 c.requires.1 in
    unmarked_less c.loop-at.heap p _ _ c.loop-at.invariant.3 left.0
