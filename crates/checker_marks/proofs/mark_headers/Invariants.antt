-- `checker_marks::mark_headers` meets its contract. Invariant: what is left to mark leaves what all of it leaves.
use Prim.Native.Nat.{◌-◌}
use Rattle.model.specs.Headers.{tuple}
use Rattle.checker_marks.proofs.Turns.{Walked}
use Rattle.checker_marks.proofs.mark_headers.Given as goal

abbrev pub invariant-loop-at : goal.invariant-loop-at
invariant-loop-at l = Walked tuple l.part l.initial.heap l.initial.at l.heap l.at

abbrev pub decreases-loop-at : goal.decreases-loop-at
decreases-loop-at l = l.free - l.at
