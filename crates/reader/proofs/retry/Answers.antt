-- `reader::retry` meets its contract: one case of the definition for each return, over what the collection left.
use mathlib.Core.Path.{◌≡◌, ◌∙◌, sym}
use mathlib.Core.Bool.{true, false}
use native.Mathlib.Omega.{arith}
use Rattle.model.specs.Headers.{tuple}
use Rattle.model.specs.Words.{State, state_of, with_text}
use Rattle.model.specs.Soundness.{sound}
use Rattle.model.specs.Collection.{collected}
use Rattle.engine.proofs.Left.{left_is, left_shaped, left-roots}
use Rattle.placing.proofs.PlacingLaws.{may_spare}
use Rattle.reader.proofs.ReadCases.{sound_beside, collected_beside, retried_damaged, retried-room, retried-done}
use Rattle.reader.proofs.Plants.{may_plant}
use Rattle.reader.proofs.retry.Goals as goal

pub spare_of-requires : goal.spare_of-requires
spare_of-requires c =
    let s : State = state_of c.args.heap.now c.args.roots.now c.args.«record» in
    let e : sound tuple s ≡ true = sym c.is_sound.ensures.0 ∙ c.if-is_sound.true in
    may_spare _ (left_shaped tuple s e _ (left_is tuple _ _ _ _ c.is_sound.ensures.1 _ _ c.collect_among.ensures))

pub plant-planted-requires : goal.plant-planted-requires
plant-planted-requires c =
    let s : State = state_of c.args.heap.now c.args.roots.now c.args.«record» in
    let d = c.collect_among in
    let e : sound tuple s ≡ true = sym c.is_sound.ensures.0 ∙ c.if-is_sound.true in
    let l : state_of d.new.heap d.new.roots d.result.«record» ≡ collected tuple s =
    left_is tuple _ _ _ _ c.is_sound.ensures.1 _ _ d.ensures in (
      may_plant _ _ _ (left_shaped tuple s e _ l) (omega (arith, left-roots tuple s e _ l, c.requires.0))
          (omega (arith, c.spare_of.ensures, c.if-words-spare_of.true)),
      c.requires.1,
    )

pub returns-then-words-spare_of : goal.returns-then-words-spare_of
returns-then-words-spare_of c g stands =
    let s : State = state_of c.args.heap.now c.args.roots.now c.args.«record» in
    let e : sound tuple s ≡ true = sym c.is_sound.ensures.0 ∙ c.if-is_sound.true in
    rw c.say.ensures
    (retried-done tuple _ (with_text c.args.text.now s) _ g stands.filled
    (sound_beside tuple c.args.text.now s ∙ e) _
    (collected_beside tuple c.args.text.now s
    (left_is tuple _ _ _ _ c.is_sound.ensures.1 _ _ c.collect_among.ensures))
    _ c.spare_of.ensures c.if-words-spare_of.true _ (c.plant-planted.ensures g stands))

pub returns-then-is_sound : goal.returns-then-is_sound
returns-then-is_sound c g stands =
    let s : State = state_of c.args.heap.now c.args.roots.now c.args.«record» in
    let e : sound tuple s ≡ true = sym c.is_sound.ensures.0 ∙ c.if-is_sound.true in
    rw c.refuse.ensures
    (retried-room tuple _ (with_text c.args.text.now s) _ g stands.filled
    (sound_beside tuple c.args.text.now s ∙ e) _
    (collected_beside tuple c.args.text.now s
    (left_is tuple _ _ _ _ c.is_sound.ensures.1 _ _ c.collect_among.ensures))
    _ c.spare_of.ensures c.if-words-spare_of.false)

pub returns : goal.returns
returns c g stands =
    let s : State = state_of c.args.heap.now c.args.roots.now c.args.«record» in
    let bad : sound tuple (with_text c.args.text.now s) ≡ false =
    sound_beside tuple c.args.text.now s ∙ sym c.is_sound.ensures.0 ∙ c.if-is_sound.false in
    rw (c.refuse-2.ensures, c.is_sound.ensures.1)
    (retried_damaged tuple _ (with_text c.args.text.now s) _ g stands.filled bad)
