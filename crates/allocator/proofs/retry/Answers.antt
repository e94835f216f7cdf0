-- `allocator::retry` meets its contract: one case of the definition for each return, over what the collection left.
use mathlib.Core.Path.{◌∙◌, sym}
use mathlib.Core.Bool.{or-false}
use native.Mathlib.Omega.{arith}
use Rattle.model.specs.Headers.{tuple}
use Rattle.theory.proofs.Refusing.{said}
use Rattle.engine.proofs.Left.{left_is, left_shaped, left-roots}
use Rattle.allocator.proofs.AllocateCases.{retried_damaged, retried-room, retried-done}
use Rattle.placing.proofs.PlacingLaws.{may_spare, may_place}
use Rattle.allocator.proofs.retry.Goals as goal

pub spare_of-requires : goal.spare_of-requires
spare_of-requires c = may_spare _ (left_shaped tuple _ (let asked = c.is_sound in sym asked.ensures.0 ∙ cc (or-false asked.result, c.if-is_sound.true)) _ (left_is tuple _ _ _ _ c.is_sound.ensures.1 _ _ c.collect_among.ensures))

pub place-placed-requires : goal.place-placed-requires
place-placed-requires c =
    may_place _ _ _ (left_shaped tuple _ (let asked = c.is_sound in sym asked.ensures.0 ∙ cc (or-false asked.result, c.if-is_sound.true)) _ (left_is tuple _ _ _ _ c.is_sound.ensures.1 _ _ c.collect_among.ensures))
    (omega (arith, left-roots tuple _ (let asked = c.is_sound in sym asked.ensures.0 ∙ cc (or-false asked.result, c.if-is_sound.true)) _ (left_is tuple _ _ _ _ c.is_sound.ensures.1 _ _ c.collect_among.ensures), c.requires.1)) c.requires.0
    (omega (arith, c.spare_of.ensures, c.if-fields-spare_of.true))

pub returns-then-fields-spare_of : goal.returns-then-fields-spare_of
returns-then-fields-spare_of c =
    said _ _ c.say.ensures
    (retried-done tuple _ _ _ _ (let asked = c.is_sound in sym asked.ensures.0 ∙ cc (or-false asked.result, c.if-is_sound.true)) _ (left_is tuple _ _ _ _ c.is_sound.ensures.1 _ _ c.collect_among.ensures) _
    c.spare_of.ensures c.if-fields-spare_of.true _ c.place-placed.ensures)

pub returns-then-is_sound : goal.returns-then-is_sound
returns-then-is_sound c =
    said _ _ c.refuse.ensures
    (retried-room tuple _ _ _ _ (let asked = c.is_sound in sym asked.ensures.0 ∙ cc (or-false asked.result, c.if-is_sound.true)) _ (left_is tuple _ _ _ _ c.is_sound.ensures.1 _ _ c.collect_among.ensures) _
    c.spare_of.ensures c.if-fields-spare_of.false)

pub returns : goal.returns
returns c =
    let asked = c.is_sound in
    said _ _ c.refuse-2.ensures
    (rw asked.ensures.1
    (sym (retried_damaged tuple _ _ _ _ (sym asked.ensures.0 ∙ cc (or-false asked.result, c.if-is_sound.false)))))
