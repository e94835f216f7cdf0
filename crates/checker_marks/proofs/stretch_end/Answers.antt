-- `checker_marks::stretch_end` meets its contract: its test is that of `stretch_end`.
use borrow.Author.Tests.{lt-ltb, le-ltb}
use Rattle.checker_marks.specs.Marks.{stretch_end}
use Rattle.checker_marks.proofs.stretch_end.Goals as goal

pub returns-then-free-at : goal.returns-then-free-at
unfolding stretch_end
returns-then-free-at c = rw (lt-ltb _ _ c.if-free-at.true)

pub returns : goal.returns
unfolding stretch_end
returns c = rw (le-ltb _ _ c.if-free-at.false)
