-- `engine_scanning::pass_fields` meets its contract. The invariant: to pass the fields that are left gives
-- what passing all gave.
use Prim.Native.Nat.{◌-◌, ◌≤◌}
use mathlib.Core.Path.{◌≡◌}
use Rattle.model.specs.Headers.{tuple}
use Rattle.engine_scanning.specs.Scanning.{scan, run, SafeRun}
use Rattle.engine_scanning.proofs.pass_fields.Given as goal

abbrev pub invariant-loop-at : goal.invariant-loop-at
invariant-loop-at l =
    (l.at-end ≤ l.so_far.free.0)
    × (run tuple (l.at-end - l.at) l.heap (scan l.at (l.at-end - l.at) 0 l.so_far.free.0 l.so_far.tally)
    ≡ run tuple l.n l.initial.heap (scan l.initial.at l.n 0 l.initial.so_far.free.0 l.initial.so_far.tally))
    × SafeRun tuple (l.at-end - l.at) l.heap (scan l.at (l.at-end - l.at) 0 l.so_far.free.0 l.so_far.tally)
