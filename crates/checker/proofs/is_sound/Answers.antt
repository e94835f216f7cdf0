-- `checker::is_sound` meets its contract: a law for each return. Past the first test the heap has its shape.
use Prim.Native.Nat.{ℕ}
use native.Mathlib.Omega.{arith}
use mathlib.Core.Path.{◌≡◌, refl, sym, ap, ◌∙◌}
use Rattle.model.specs.Headers.{tuple}
use Rattle.model.specs.Words.{state_of}
use Rattle.theory.proofs.Shape as Shape
use Rattle.checker.specs.ByMarks.{part_of, is_zero_around}
use Rattle.checker.proofs.Returns.{unsound-shape, part-halves, part_markable, unsound_around, sound-used}
use Rattle.checker.proofs.is_sound.Goals as goal

-- an object's address is that of its header
tuple-near : tuple.ahead ≡ 0
unfolding tuple
tuple-near = refl

pub returns-then-bad_shape : goal.returns-then-bad_shape
returns-then-bad_shape c = (unsound-shape tuple _ _ _ (sym c.bad_shape.ensures ∙ c.if-bad_shape.true), refl)

pub half_words-half_words-requires : goal.half_words-half_words-requires
half_words-half_words-requires c =
    let s = state_of c.args.heap.now c.args.roots.now c.args.«record» in
    let fair = sym c.bad_shape.ensures ∙ c.if-bad_shape.false in
    omega (arith, (Shape.shaped s fair).odd)

pub part_of-part-requires : goal.part_of-part-requires
part_of-part-requires c =
    let s = state_of c.args.heap.now c.args.roots.now c.args.«record» in
    let fair = sym c.bad_shape.ensures ∙ c.if-bad_shape.false in
    omega (arith, c.half_words-half_words.ensures, (Shape.shaped s fair).small)

pub is_zero_around-requires : goal.is_zero_around-requires
is_zero_around-requires c =
    let fair = sym c.bad_shape.ensures ∙ c.if-bad_shape.false in
    let half = c.half_words-half_words.ensures in
    let part = c.part_of-part.ensures ∙ ap (λ (S : ℕ). part_of S c.args.«record») half in
    rw half (part-halves tuple _ c.args.roots.now _ fair _ part)

pub returns-then-not-is_zero_around : goal.returns-then-not-is_zero_around
returns-then-not-is_zero_around c =
    let h = c.args.heap.now in
    let fair = sym c.bad_shape.ensures ∙ c.if-bad_shape.false in
    let half = c.half_words-half_words.ensures in
    let part = c.part_of-part.ensures ∙ ap (λ (S : ℕ). part_of S c.args.«record») half in
    let around = c.is_zero_around.ensures ∙ ap (λ (S : ℕ). is_zero_around h c.part_of-part.result S) half in
    (unsound_around tuple _ _ _ fair _ part (sym c.if-not-is_zero_around.true ∙ around), refl)

pub is_used_part_sound-requires : goal.is_used_part_sound-requires
is_used_part_sound-requires c =
    let h = c.args.heap.now in
    let fair = sym c.bad_shape.ensures ∙ c.if-bad_shape.false in
    let half = c.half_words-half_words.ensures in
    let part = c.part_of-part.ensures ∙ ap (λ (S : ℕ). part_of S c.args.«record») half in
    let around = c.is_zero_around.ensures ∙ ap (λ (S : ℕ). is_zero_around h c.part_of-part.result S) half in
    part_markable tuple _ c.args.roots.now _ fair _ part (sym c.if-not-is_zero_around.false ∙ around)

pub returns : goal.returns
returns c =
    let h = c.args.heap.now in
    let fair = sym c.bad_shape.ensures ∙ c.if-bad_shape.false in
    let half = c.half_words-half_words.ensures in
    let part = c.part_of-part.ensures ∙ ap (λ (S : ℕ). part_of S c.args.«record») half in
    let around = c.is_zero_around.ensures ∙ ap (λ (S : ℕ). is_zero_around h c.part_of-part.result S) half in
    let m = c.is_used_part_sound.ensures in
    sound-used tuple _ _ _ fair _ part (sym c.if-not-is_zero_around.false ∙ around) tuple-near _ _ m.0 m.1
