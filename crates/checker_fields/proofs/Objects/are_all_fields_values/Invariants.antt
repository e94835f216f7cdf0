-- `checker_fields::Objects::are_all_fields_values` meets its contract. Invariant: a walk from the first index on.
use Prim.Native.Nat.{◌-◌}
use Rattle.checker_marks.specs.Verdicts.{holds}
use Rattle.checker_fields.proofs.Turns.{Walks}
use Rattle.checker_fields.proofs.Objects.are_all_fields_values.Given as goal

abbrev pub invariant-loop-at : goal.invariant-loop-at
invariant-loop-at l = Walks l.self l.from l.at (holds l.verdict)

abbrev pub decreases-loop-at : goal.decreases-loop-at
decreases-loop-at l = l.self.marks.free - l.at
