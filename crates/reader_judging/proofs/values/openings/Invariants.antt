-- `reader_judging::values::openings` meets its contract.
use Rattle.reader_judging.proofs.Chains.{Opening}
use Rattle.reader_judging.proofs.values.openings.Given as goal

abbrev pub invariant-loop-levels : goal.invariant-loop-levels
invariant-loop-levels l = Opening l.text l.at l.depth l.levels
