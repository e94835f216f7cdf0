-- `reader_judging::values::are_closed` meets its contract.
use Rattle.reader_judging.proofs.Chains.{Closing}
use Rattle.reader_judging.proofs.values.are_closed.Given as goal

abbrev pub invariant-loop-closed : goal.invariant-loop-closed
invariant-loop-closed l = Closing l.text l.at l.levels l.closed
