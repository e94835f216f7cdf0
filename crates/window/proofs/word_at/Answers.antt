-- `window::word_at` meets its contract, return by return: each is a law of what a window answers, at what has been tested.
use native.Mathlib.Omega.{arith}
use mathlib.Core.Path.{sym}
use Rattle.theory.proofs.Window.{word_from_count, word-past-end, word-itself, word_hidden}
use Rattle.window.proofs.word_at.Goals.{
  else-field-count-via-then-field-count+then-at-heap+else-field-heap,
  else-field-count-via-then-field-count+else-at-heap,
  else-field-count-via-else-field-count,
}
use Rattle.window.proofs.word_at.Goals as goal

pub returns-in_default : goal.returns-in_default
returns-in_default c = rw c.in_default.is (sym (word_hidden _ _ _))

pub returns-then-field-heap : goal.returns-then-field-heap
returns-then-field-heap c =
    rw c.in-Ok.is
    (sym (word-itself _ _ _ _ (omega (arith, c.if-field-count.true))
    (omega (arith, c.if-at-heap.true, c.if-field-heap.true)) _ (omega arith)))

pub returns-else-field-count : goal.returns-else-field-count
returns-else-field-count c =
    rw c.in-Ok.is
    (elim c.else-field-count.branch [
      | else-field-count-via-then-field-count+then-at-heap+else-field-heap w ↦
          sym (word-past-end _ _ _ _ (omega (arith, w.if-at-heap.true, w.if-field-heap.false)))
      | else-field-count-via-then-field-count+else-at-heap w ↦
          sym (word-past-end _ _ _ _ (omega (arith, w.if-at-heap.false)))
      | else-field-count-via-else-field-count w ↦
          sym (word_from_count _ _ _ _ (omega (arith, w.if-field-count.false)))
    ])
