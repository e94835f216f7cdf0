-- `phachunoi::roots::phachunoi_inspect` meets its contract: its numbers cross to the call and back.
use Rattle.crossing.proofs.Crosses.{seen}
use Rattle.phachunoi.proofs.roots.phachunoi_inspect.Goals as goal

pub returns : goal.returns
returns c =
    let a = c.args in
    seen a.«record» a.heap.now a.roots.now a.root
    c.record_of.ensures c.tell.ensures c.seen_of.ensures
