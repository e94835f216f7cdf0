-- `collector::collect` meets its contract: one case of the definition for each return.
use mathlib.Core.Path.{◌∙◌, sym}
use Rattle.model.specs.Headers.{tuple}
use Rattle.theory.proofs.Refusing.{said}
use Rattle.collector.proofs.CollectCases.{collect-shape, collect_damaged, collect-live}
use Rattle.collector.proofs.collect.Goals as goal

pub returns-then-bad_shape : goal.returns-then-bad_shape
returns-then-bad_shape c =
    said _ _ c.refuse.ensures
    (sym (collect-shape tuple _ (sym c.bad_shape.ensures ∙ c.if-bad_shape.true)))

pub returns-then-is_sound : goal.returns-then-is_sound
returns-then-is_sound c =
    let q = c.is_sound.ensures in
    said _ _ c.say.ensures
    (rw (collect-live tuple _ (sym c.bad_shape.ensures ∙ c.if-bad_shape.false) (sym q.0 ∙ c.if-is_sound.true), ← q.1)
    c.collect_sound-done.ensures)

pub returns : goal.returns
returns c =
    let q = c.is_sound.ensures in
    said _ _ c.refuse-2.ensures
    (rw q.1 (sym (collect_damaged tuple _ (sym c.bad_shape.ensures ∙ c.if-bad_shape.false) (sym q.0 ∙ c.if-is_sound.false))))
