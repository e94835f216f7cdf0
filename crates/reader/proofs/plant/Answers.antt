-- `reader::plant` meets its contract: what is laid out and the root that is set are `planted`.
use Rattle.model.specs.Words.{State, state_of, with_text}
use Rattle.reader.proofs.Plants.{lays_out, planted_by}
use Rattle.reader.proofs.plant.Goals as goal

pub lay-requires : goal.lay-requires
lay-requires c =
    let p = c.requires in
    let s : State = with_text c.args.text.now (state_of c.args.heap.now c.args.roots.now c.args.«record») in
    (p.1.0, lays_out s _ _ _ p.1.1 p.0.room p.0.most)

pub returns : goal.returns
returns c g stands =
    let p = c.requires in
    let s : State = with_text c.args.text.now (state_of c.args.heap.now c.args.roots.now c.args.«record») in
    planted_by s c.args.to c.args.words g _ _
    (c.lay.ensures g (lays_out s _ _ _ stands p.0.room p.0.most)) c.address_of.ensures
