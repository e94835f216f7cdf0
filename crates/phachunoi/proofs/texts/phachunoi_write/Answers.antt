-- `phachunoi::texts::phachunoi_write` meets its contract: its numbers cross to the call and back.
use Rattle.model.specs.declared.Call.TheVariants as Ask
use Rattle.model.specs.Sessions.{step}
use Rattle.crossing.specs.Numbers.{written_of}
use Rattle.crossing.proofs.Crosses.{keeps-text}
use Rattle.phachunoi.proofs.texts.phachunoi_write.Goals as goal

pub returns : goal.returns
unfolding step
returns c =
    let a = c.args in
    keeps-text written_of a.«record» a.heap.now a.roots.now a.text.now (Ask.Write a.root)
    c.record_of.ensures c.write.ensures c.written_of.ensures
