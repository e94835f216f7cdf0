-- `runs::copy_eight` meets its contract: two fours, one after the other.
use native.Mathlib.Omega.{arith}
use Rattle.runs.proofs.RunLaws.{copied_parts}
use Rattle.runs.proofs.copy_eight.Goals as goal

pub returns : goal.returns
returns c =
    let second = c.before.before in
    let begun = second.before in
    let s = begun in
    copied_parts s.args.heap.now _ _ s.args.from s.args.to 4 4 4 8
    begun.copy_four.ensures second.copy_four-2.ensures
    s.requires.2 s.requires.1 (omega arith) (omega arith) (omega arith)
