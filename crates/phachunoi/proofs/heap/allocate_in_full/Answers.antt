-- `phachunoi::heap::allocate_in_full` meets its contract: its numbers cross to the whole call and back.
use native.Mathlib.Omega.{arith}
use Rattle.phachunoi.proofs.Allocating.{whole_crosses, whole_narrow}
use Rattle.phachunoi.proofs.heap.allocate_in_full.Goals as goal

pub result_of-requires : goal.result_of-requires
result_of-requires c =
    whole_narrow c.args.kind c.args.«record» _ _ _ _
    c.record_of.ensures c.allocate.ensures (omega (arith, c.well_formed))

pub returns : goal.returns
returns c =
    let a = c.args in
    whole_crosses a.kind a.«record» _ _ _ _
    c.record_of.ensures c.allocate.ensures c.result_of.ensures
