-- `reader_judging::values::openings` meets its contract.
use Rattle.reader_judging.proofs.Chains.{none-opened, one-opened}
use Rattle.reader_judging.proofs.values.openings.Goals as goal

pub loop-levels-init : goal.loop-levels-init
loop-levels-init c = none-opened _ _ _ c.requires

pub loop-levels-preserved : goal.loop-levels-preserved
loop-levels-preserved c = one-opened _ _ _ _ c.loop-levels.invariant _ c.opens_one.ensures c.if-not-opens_one.false c.loop-levels-test.true
