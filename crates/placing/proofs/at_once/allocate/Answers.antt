-- `placing::at_once::allocate` meets its contract: the object is placed.
use Rattle.model.specs.Headers.{tuple}
use Rattle.model.specs.Words.{state_of}
use Rattle.placing.proofs.PlacingLaws.{at-once-place, at-once-done}
use Rattle.placing.proofs.at_once.allocate.Goals as goal

pub place-requires : goal.place-requires
place-requires c =
    at-once-place tuple c.args.kind c.args.fields c.args.to
    (state_of c.args.heap.now c.args.roots.now c.args.«record») c.requires

pub returns : goal.returns
returns c =
    rw (
      at-once-done tuple c.args.kind c.args.fields c.args.to
          (state_of c.args.heap.now c.args.roots.now c.args.«record») c.requires,
      ← c.place.ensures,
    )
