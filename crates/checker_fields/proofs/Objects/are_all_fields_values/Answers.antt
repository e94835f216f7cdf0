-- `checker_fields::Objects::are_all_fields_values` meets its contract: by what another walk passed.
use native.Mathlib.Omega.{arith}
use mathlib.Core.Path.{◌∙◌}
use Rattle.model.specs.Headers.{tuple}
use Rattle.checker_fields.proofs.Turns.{ends}
use Rattle.checker_fields.proofs.Objects.are_all_fields_values.Goals as goal

pub returns : goal.returns
returns c = c.holds.ensures ∙ ends tuple _ _ _ _ _ _ c.loop-at.invariant (omega arith)
