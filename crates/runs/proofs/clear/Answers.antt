-- `runs::clear` meets its contract. Invariant: the words passed are 0, and those behind them as they were.
use native.Mathlib.Omega.{arith}
use Rattle.std.proofs.lemmas.List.Edits.{fill_more}
use Rattle.runs.proofs.RunLaws.{cleared-filled}
use Rattle.runs.proofs.clear.Goals as goal

pub loop-word-preserved : goal.loop-word-preserved
loop-word-preserved c = (omega arith, rw c.loop-word.invariant.1 (fill_more _ 0 _ c.loop-word-test.true))

pub returns : goal.returns
returns c =
    let a = c.args in
    cleared-filled a.heap.now a.from a.n _ c.loop-word.word-index _ _ c.requires (omega arith) (omega arith)
    c.loop-word-test.false c.loop-word.invariant.1
