-- `engine_scanning::pass_objects` meets its contract. The invariant: to pass what is left gives what passing all gave.
use Prim.Native.Nat.{◌-◌}
use mathlib.Core.Path.{◌≡◌}
use lib.ListN.{length}
use Rattle.model.specs.Headers.{tuple}
use Rattle.engine_scanning.specs.Scanning.{stands, run, SafeRun}
use Rattle.engine_scanning.proofs.pass_objects.Given as goal

abbrev pub invariant-loop-so_far : goal.invariant-loop-so_far
invariant-loop-so_far l =
    (run tuple (length l.heap - l.so_far.next.0) l.heap (stands l.so_far)
    ≡ run tuple (length l.initial.heap - l.initial.so_far.next.0) l.initial.heap (stands l.initial.so_far))
    × SafeRun tuple (length l.heap - l.so_far.next.0) l.heap (stands l.so_far)

abbrev pub decreases-loop-so_far : goal.decreases-loop-so_far
decreases-loop-so_far l = length l.heap - l.so_far.next.0
