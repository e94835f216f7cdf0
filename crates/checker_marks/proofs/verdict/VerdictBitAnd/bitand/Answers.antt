-- `&` of two verdicts meets its contract: the lowest bit of both.
use Rattle.checker_marks.proofs.Parity.{and-odd}
use Rattle.checker_marks.proofs.verdict.VerdictBitAnd.bitand.Goals as goal

pub returns : goal.returns
returns c = and-odd c.args.self.bits c.args.other.bits
