-- `phachunoi::heap::phachunoi_collect` meets its contract: its numbers cross to the call and back.
use native.Mathlib.Omega.{arith}
use Rattle.model.specs.declared.Call.TheVariants as Ask
use Rattle.model.specs.Sessions.{step}
use Rattle.crossing.specs.Numbers.{collected_of}
use Rattle.crossing.proofs.Crosses.{crosses, narrow}
use Rattle.phachunoi.proofs.heap.phachunoi_collect.Goals as goal

pub collected_of-requires : goal.collected_of-requires
unfolding step
collected_of-requires c =
    let a = c.args in
    narrow a.«record» a.heap.now a.roots.now Ask.Collect
    c.record_of.ensures c.collect.ensures (omega (arith, c.well_formed))

pub returns : goal.returns
unfolding step
returns c =
    let a = c.args in
    crosses collected_of a.«record» a.heap.now a.roots.now Ask.Collect
    c.record_of.ensures c.collect.ensures c.collected_of.ensures
