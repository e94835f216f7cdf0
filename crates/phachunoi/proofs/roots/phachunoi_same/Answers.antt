-- `phachunoi::roots::phachunoi_same` meets its contract: its numbers cross to the call and back.
use Rattle.model.specs.declared.Call.TheVariants as Ask
use Rattle.model.specs.Sessions.{step}
use Rattle.crossing.specs.Numbers.{answer_of}
use Rattle.crossing.proofs.Crosses.{keeps}
use Rattle.phachunoi.proofs.roots.phachunoi_same.Goals as goal

pub returns : goal.returns
unfolding step
returns c =
    let called = c.before in
    let crossed = called.before in
    let a = crossed.args in
    keeps answer_of a.«record» a.heap.now a.roots.now (Ask.Same a.one a.other)
    crossed.record_of.ensures called.same.ensures c.answer_of.ensures
