-- `runs::copy_eights` meets its contract. Invariant: the list is `copied_run` of what it was, at the words passed.
use mathlib.Core.Path.{◌≡◌}
use Prim.Native.Nat.{◌-◌, ◌<◌}
use Rattle.runs.specs.Runs.{copied_run}
use Rattle.runs.proofs.copy_eights.Given as goal

abbrev pub invariant-loop-i : goal.invariant-loop-i
invariant-loop-i l = (l.i < l.n) × (l.heap ≡ copied_run l.initial.heap l.from l.to l.i)

abbrev pub decreases-loop-i : goal.decreases-loop-i
decreases-loop-i l = l.last - l.i
