-- `placing::place` meets its contract: its three stores are those of `placed`.
use Rattle.model.specs.Headers.{tuple}
use Rattle.model.specs.Words.{state_of}
use Rattle.placing.proofs.PlacingLaws.{placed_by}
use Rattle.placing.proofs.place.Goals as goal

pub returns : goal.returns
returns c =
    placed_by tuple (state_of c.args.heap.now c.args.roots.now c.args.«record») _ _ _ _ _ _
    c.header.ensures c.clear.ensures c.address_of.ensures
