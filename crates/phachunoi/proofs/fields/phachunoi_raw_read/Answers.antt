-- `phachunoi::fields::phachunoi_raw_read` meets its contract: its numbers cross to the call and back.
use Rattle.model.specs.declared.Call.TheVariants as Ask
use Rattle.model.specs.Sessions.{step}
use Rattle.crossing.specs.Numbers.{answer_of}
use Rattle.crossing.proofs.Crosses.{keeps}
use Rattle.phachunoi.proofs.fields.phachunoi_raw_read.Goals as goal

pub returns : goal.returns
unfolding step
returns c =
    let called = c.before in
    let crossed = called.before in
    let a = crossed.args in
    keeps answer_of a.«record» a.heap.now a.roots.now (Ask.RawRead a.object a.field)
    crossed.record_of.ensures called.raw_read.ensures c.answer_of.ensures
