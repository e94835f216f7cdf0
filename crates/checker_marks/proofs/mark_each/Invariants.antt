-- `checker_marks::mark_each` meets its contract. Invariant: what is left to mark leaves what all from the first
-- index on leaves, and the word there is a header.
use Prim.Native.Nat.{◌-◌}
use mathlib.Core.Path.{◌≡◌}
use mathlib.Core.Bool.{true}
use Rattle.model.specs.Headers.{tuple}
use Rattle.model.specs.Words as words
use Rattle.checker_marks.proofs.Turns.{Walked}
use Rattle.checker_marks.proofs.mark_each.Given as goal

abbrev pub invariant-loop-at : goal.invariant-loop-at
invariant-loop-at l = Walked tuple l.part l.initial.heap l.initial.at l.heap l.at
    × (l.at ≡ l.initial.at → tuple.is_header (words.at l.heap l.at) ≡ true)

abbrev pub decreases-loop-at : goal.decreases-loop-at
decreases-loop-at l = l.end - l.at
