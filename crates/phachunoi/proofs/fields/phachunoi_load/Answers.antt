-- `phachunoi::fields::phachunoi_load` meets its contract: its numbers cross to the call and back.
use Rattle.model.specs.declared.Call.TheVariants as Ask
use Rattle.model.specs.Sessions.{step}
use Rattle.crossing.specs.Numbers.{answer_of}
use Rattle.crossing.proofs.Crosses.{keeps}
use Rattle.phachunoi.proofs.fields.phachunoi_load.Goals as goal

pub returns : goal.returns
unfolding step
returns c =
    let a = c.args in
    keeps answer_of a.«record» a.heap.now a.roots.now (Ask.Load a.object a.field a.to)
    c.record_of.ensures c.load.ensures c.answer_of.ensures
