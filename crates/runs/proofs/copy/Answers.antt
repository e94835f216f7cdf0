-- `runs::copy` meets its contract: five to eight words are the first four and the last four, some of them twice.
use native.Mathlib.Omega.{arith}
use Rattle.runs.proofs.RunLaws.{copied_parts}
use Rattle.runs.proofs.copy.Goals as goal

pub returns-then-n-le8 : goal.returns-then-n-le8
returns-then-n-le8 c =
    let second = c.before.before in
    let begun = second.before in
    let s = begun.before in
    let n = s.args.n in
    copied_parts s.args.heap.now _ _ s.args.from s.args.to 4 _ 4 n
    begun.copy_four.ensures second.copy_four-then-n-le8.ensures
    s.requires.2 s.requires.1 (omega arith) (omega arith) (omega arith)
