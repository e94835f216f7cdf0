-- `phachunoi::texts::phachunoi_read` meets its contract: its numbers cross to the call and back.
use native.Mathlib.Omega.{arith}
use Rattle.model.specs.declared.Call.TheVariants as Ask
use Rattle.model.specs.Sessions.{step}
use Rattle.crossing.specs.Numbers.{result_of}
use Rattle.crossing.proofs.Crosses.{crosses_text, narrow_text}
use Rattle.phachunoi.proofs.texts.phachunoi_read.Goals as goal

pub result_of-requires : goal.result_of-requires
unfolding step
result_of-requires c =
    let a = c.args in
    narrow_text a.«record» a.heap.now a.roots.now a.text.now (Ask.Read a.to)
    c.record_of.ensures c.read.ensures (omega (arith, c.well_formed))

pub returns : goal.returns
unfolding step
returns c =
    let a = c.args in
    crosses_text result_of a.«record» a.heap.now a.roots.now a.text.now (Ask.Read a.to)
    c.record_of.ensures c.read.ensures c.result_of.ensures
