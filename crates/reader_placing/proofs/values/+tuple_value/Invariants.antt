-- `reader_placing::values::value` and `reader_placing::values::tuple` meet their contracts. A value has so many levels left, and the
-- tuple that it is has its values with one fewer. The loop's invariant: whatever values the text had where the loop began, what is
-- left of them, laid from here on, leaves what all of them laid from there on leave.
use Prim.Native.Nat.{ℕ, ◌+◌}
use mathlib.Core.Path.{◌≡◌}
use Rattle.model.specs.Trees.{Forest}
use Rattle.model.specs.Trees as Trees
use Rattle.reader_placing.proofs.Fields.{FieldsAt, Going}
use Rattle.reader_placing.proofs.values.+tuple_value.Given as goal

abbrev pub decreases-value : goal.decreases-value
decreases-value l = l.depth + l.depth

abbrev pub decreases-tuple : goal.decreases-tuple
decreases-tuple l = l.depth + l.depth + 1

abbrev pub invariant-tuple-loop-field : goal.invariant-tuple-loop-field
invariant-tuple-loop-field l =
    let o = l.initial in
    let first : ℕ = l.free + 1 in
    (c : ℕ) (g : Forest) → FieldsAt o.heap l.text c first o.reached.at o.reached.free o.reached.slot l.depth g → first + Trees.count g ≡ l.end
    → Going l.text c l.depth g o.heap first o.reached.at o.reached.free o.reached.slot l.heap l.field l.reached.at l.reached.free l.reached.slot
