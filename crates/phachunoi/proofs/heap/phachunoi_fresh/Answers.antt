-- `phachunoi::heap::phachunoi_fresh` meets its contract: fresh is called with no roots.
use native.Mathlib.Omega.{arith}
use Rattle.crossing.proofs.Crosses.{fresh_crosses, fresh_narrow}
use Rattle.phachunoi.proofs.heap.phachunoi_fresh.Goals as goal

pub fresh_result_of-requires : goal.fresh_result_of-requires
fresh_result_of-requires c =
    let a = c.args in
    fresh_narrow a.heap.now c.record_of.result a.«record»
    c.record_of.ensures c.fresh.ensures (omega (arith, c.well_formed))

pub returns : goal.returns
returns c =
    let a = c.args in
    fresh_crosses a.heap.now c.record_of.result a.«record»
    c.fresh.ensures c.fresh_result_of.ensures
