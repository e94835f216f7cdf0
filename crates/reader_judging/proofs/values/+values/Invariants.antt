-- `reader_judging::values::value`, `tuple`, `singles` and `innermost` meet their contracts. A value has so many levels left, and the
-- tuple that it is has its fields' values with one fewer. The loop's invariant: the fields up to the present place, `Fields`.
use Prim.Native.Nat.{◌+◌, ◌-◌, ◌*◌}
use lib.ListN.{length}
use Rattle.reader_judging.proofs.Tuples.{Fields}
use Rattle.reader_judging.proofs.values.+values.Given as goal

abbrev pub decreases-innermost : goal.decreases-innermost
decreases-innermost l = 4 * l.depth

abbrev pub decreases-singles : goal.decreases-singles
decreases-singles l = 4 * l.depth + 1

abbrev pub decreases-value : goal.decreases-value
decreases-value l = 4 * l.depth + 2

abbrev pub decreases-tuple : goal.decreases-tuple
decreases-tuple l = 4 * l.depth + 3

abbrev pub invariant-tuple-loop-next : goal.invariant-tuple-loop-next
invariant-tuple-loop-next l = Fields l.depth l.text l.at l.initial.found.words l.found.words l.place l.fields

abbrev pub decreases-tuple-loop-next : goal.decreases-tuple-loop-next
decreases-tuple-loop-next l = length l.text - l.place
