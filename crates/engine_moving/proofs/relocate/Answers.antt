-- `engine_moving::relocate` meets its contract: each return is a case of `relocated`, from what the calls answer.
use native.Mathlib.Omega.{arith}
use mathlib.Core.Path.{sym, ◌∙◌}
use Rattle.model.specs.Headers.{tuple}
use Rattle.engine_moving.proofs.MovingLaws.{copied_is, found-is}
use Rattle.engine_moving.proofs.relocate.Goals as goal

pub returns-then-is_header : goal.returns-then-is_header
returns-then-is_header c =
    copied_is tuple c.args.heap.now c.args.object.0 c.args.free.0 _ _ _ _
    (sym c.is_header.ensures ∙ c.if-is_header.true)
    c.count_of-n.ensures.is c.copy.ensures c.address_of-copy.ensures (omega (arith, c.mark-mark.ensures))

pub returns : goal.returns
returns c = found-is _ _ _ _ _ (sym c.is_header.ensures ∙ c.if-is_header.false) c.unmark.ensures
