-- `checker::check` meets its contract: a law for each return.
use mathlib.Core.Path.{sym, ◌∙◌}
use Rattle.model.specs.Headers.{tuple}
use Rattle.checker.proofs.Returns.{check-refused, check_sound, check-unsound}
use Rattle.checker.proofs.check.Goals as goal

pub returns-then-bad_shape : goal.returns-then-bad_shape
returns-then-bad_shape c =
    check-refused tuple _ _ _ (sym c.bad_shape.ensures ∙ c.if-bad_shape.true)

pub returns-then-is_sound : goal.returns-then-is_sound
returns-then-is_sound c =
    let k = c.is_sound.ensures in
    let fair = sym c.bad_shape.ensures ∙ c.if-bad_shape.false in
    check_sound tuple _ _ _ fair _ k.1 (sym c.if-is_sound.true ∙ k.0)

pub returns : goal.returns
returns c =
    let k = c.is_sound.ensures in
    let fair = sym c.bad_shape.ensures ∙ c.if-bad_shape.false in
    check-unsound tuple _ _ _ fair _ k.1 (sym c.if-is_sound.false ∙ k.0)
