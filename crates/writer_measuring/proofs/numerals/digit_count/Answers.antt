-- `writer_measuring::numerals::digit_count` meets its contract: a number has k digits where it is not below 10 to the power k - 1.
use native.Mathlib.Omega.{arith}
use Rattle.writer_measuring.specs.Numerals.{tens}
use Rattle.writer_measuring.proofs.Digits.{one-digit, digits-counted}
use Rattle.writer_measuring.proofs.numerals.digit_count.Goals as goal

pub returns-then-number-lt10-clause-is : goal.returns-then-number-lt10-clause-is
unfolding tens
returns-then-number-lt10-clause-is c =
    one-digit c.args.number c.if-number-lt10.true

pub returns-then-number-lt100-clause-is : goal.returns-then-number-lt100-clause-is
unfolding tens
returns-then-number-lt100-clause-is c =
    digits-counted 1 c.args.number (omega arith) (omega arith) (omega arith)

pub returns-then-number-lt1000-clause-is : goal.returns-then-number-lt1000-clause-is
unfolding tens
returns-then-number-lt1000-clause-is c = digits-counted 2 c.args.number (omega arith) (omega arith) (omega arith)

pub returns-then-number-lt10000-clause-is : goal.returns-then-number-lt10000-clause-is
unfolding tens
returns-then-number-lt10000-clause-is c = digits-counted 3 c.args.number (omega arith) (omega arith) (omega arith)

pub returns-then-number-lt100000-clause-is : goal.returns-then-number-lt100000-clause-is
unfolding tens
returns-then-number-lt100000-clause-is c = digits-counted 4 c.args.number (omega arith) (omega arith) (omega arith)

pub returns-then-number-lt1000000-clause-is : goal.returns-then-number-lt1000000-clause-is
unfolding tens
returns-then-number-lt1000000-clause-is c = digits-counted 5 c.args.number (omega arith) (omega arith) (omega arith)

pub returns-then-number-lt10000000-clause-is : goal.returns-then-number-lt10000000-clause-is
unfolding tens
returns-then-number-lt10000000-clause-is c = digits-counted 6 c.args.number (omega arith) (omega arith) (omega arith)

pub returns-then-number-lt100000000-clause-is : goal.returns-then-number-lt100000000-clause-is
unfolding tens
returns-then-number-lt100000000-clause-is c = digits-counted 7 c.args.number (omega arith) (omega arith) (omega arith)

pub returns-then-number-lt1000000000-clause-is : goal.returns-then-number-lt1000000000-clause-is
unfolding tens
returns-then-number-lt1000000000-clause-is c = digits-counted 8 c.args.number (omega arith) (omega arith) (omega arith)

pub returns-clause-is : goal.returns-clause-is
unfolding tens
returns-clause-is c = digits-counted 9 c.args.number (omega arith) (omega arith) (omega arith)
