-- `runs::clear` meets its contract. Invariant: the words passed are 0, and those behind them as they were.
use mathlib.Core.Path.{◌≡◌}
use mathlib.Core.List.{◌++◌}
use lib.ListN.{replicate, drop}
use Prim.Native.Nat.{◌≤◌}
use lib.ListN.{length}
use Rattle.runs.proofs.clear.Given as goal

abbrev pub invariant-loop-word : goal.invariant-loop-word
invariant-loop-word l =
    (l.word-index ≤ length l.initial.word-items)
    × (l.word-items ≡ replicate l.word-index 0 ++ drop l.word-index l.initial.word-items)
