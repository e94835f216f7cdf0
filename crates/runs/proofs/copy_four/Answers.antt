-- `runs::copy_four` meets its contract: the words that were read are those that `copied_run` reads at each step.
use Rattle.runs.proofs.RunLaws.{copied_four}
use Rattle.runs.proofs.copy_four.Goals as goal

pub returns : goal.returns
returns c =
    let a = c.args in
    copied_four a.heap.now a.from a.to c.requires.2
