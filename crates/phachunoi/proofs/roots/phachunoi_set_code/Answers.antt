-- `phachunoi::roots::phachunoi_set_code` meets its contract: its numbers cross to the call and back.
use Rattle.model.specs.declared.Call.TheVariants as Ask
use Rattle.model.specs.Sessions.{step}
use Rattle.crossing.specs.Numbers.{answer_of}
use Rattle.crossing.proofs.Crosses.{keeps}
use Rattle.phachunoi.proofs.roots.phachunoi_set_code.Goals as goal

pub returns : goal.returns
unfolding step
returns c =
    let a = c.args in
    keeps answer_of a.«record» a.heap.now a.roots.now (Ask.SetCode a.to a.word)
    c.record_of.ensures c.set_code.ensures c.answer_of.ensures
