-- `phachunoi::roots::phachunoi_copy` meets its contract: its numbers cross to the call and back.
use Rattle.model.specs.declared.Call.TheVariants as Ask
use Rattle.model.specs.Sessions.{step}
use Rattle.crossing.specs.Numbers.{answer_of}
use Rattle.crossing.proofs.Crosses.{keeps}
use Rattle.phachunoi.proofs.roots.phachunoi_copy.Goals as goal

pub returns : goal.returns
unfolding step
returns c =
    let a = c.args in
    keeps answer_of a.«record» a.heap.now a.roots.now (Ask.Copy a.from a.to)
    c.record_of.ensures c.copy.ensures c.answer_of.ensures
