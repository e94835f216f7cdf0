-- `blind::fresh` meets its contract: what `clear` leaves of all the words is zeros.
use mathlib.Core.Path.{sym, ◌∙◌}
use Rattle.model.specs.Words.{state_of}
use Rattle.model.specs.Calls as Calls
use Rattle.theory.proofs.Refusing.{said, applies}
use Rattle.blind.proofs.FreshHeap.{fresh-done}
use Rattle.blind.proofs.beginning.fresh.Goals as goal

pub returns-then-bad_length : goal.returns-then-bad_length
unfolding Calls.fresh
returns-then-bad_length c =
    said _ _ c.refuse.ensures
    (applies _ (sym c.bad_length.ensures ∙ c.if-bad_length.true))

pub returns : goal.returns
returns c =
    said _ _ c.say.ensures
    (fresh-done (state_of c.args.heap.now c.args.roots.now c.args.«record») _
    (sym c.bad_length.ensures ∙ c.if-bad_length.false)
    c.clear.ensures)
