-- `phachunoi::roots::phachunoi_set_integer` meets its contract: its numbers cross to the call and back.
use mir.Syntax.{w64}
use mir.ValLaws.{to_z-of_z}
use Rattle.model.specs.declared.Call.TheVariants as Ask
use Rattle.model.specs.Sessions.{step}
use Rattle.crossing.specs.Numbers.{answer_of}
use Rattle.crossing.proofs.Crosses.{keeps}
use Rattle.phachunoi.proofs.roots.phachunoi_set_integer.Goals as goal

pub returns : goal.returns
unfolding step
returns c =
    let a = c.args in
    let v = to_z-of_z w64 a.value c.ranges.value in
    keeps answer_of a.«record» a.heap.now a.roots.now (Ask.SetInteger a.to a.value)
    c.record_of.ensures (rw v at c.set_integer.ensures) c.answer_of.ensures
