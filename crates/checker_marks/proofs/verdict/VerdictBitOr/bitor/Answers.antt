-- `|` of two verdicts meets its contract: the lowest bit of either.
use Rattle.checker_marks.proofs.Parity.{or-odd}
use Rattle.checker_marks.proofs.verdict.VerdictBitOr.bitor.Goals as goal

pub returns : goal.returns
returns c = or-odd c.args.self.bits c.args.other.bits
