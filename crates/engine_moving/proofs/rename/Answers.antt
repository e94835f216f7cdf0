-- `engine_moving::rename` meets its contract: an address is relocated, any other word stays.
use mathlib.Core.Path.{sym, ◌∙◌}
use Rattle.engine_moving.proofs.MovingLaws.{renamed-address, renamed-plain}
use Rattle.engine_moving.proofs.rename.Goals as goal

pub returns-then-is_address : goal.returns-then-is_address
returns-then-is_address c =
    rw (
      renamed-address _ _ _ _ (sym c.is_address.ensures ∙ c.if-is_address.true),
      ← c.index_of.ensures,
    )
    c.relocate.ensures

pub returns : goal.returns
returns c = sym (renamed-plain _ _ _ _ (sym c.is_address.ensures ∙ c.if-is_address.false))
