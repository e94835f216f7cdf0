-- `phachunoi::window::phachunoi_open` meets its contract: its numbers cross to `find`, and the place back.
use Rattle.crossing.proofs.Crosses.{window_crosses, place_narrow}
use Rattle.phachunoi.proofs.window.phachunoi_open.Goals as goal

pub window_of-requires : goal.window_of-requires
window_of-requires c = place_narrow _ _ c.find.ensures

pub returns : goal.returns
returns c =
    let called = c.before in
    let crossed = called.before in
    let a = crossed.args in
    window_crosses a.«record» a.heap.now a.roots.now a.object
    crossed.record_of.ensures called.find.ensures c.window_of.ensures
