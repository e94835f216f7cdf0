-- `runs::all_zero` meets its contract. Invariant: the words left are all 0 exactly where all are.
use mathlib.Core.Path.{◌≡◌}
use lib.ListN.{length}
use Rattle.model.specs.Soundness.{all}
use Rattle.model.specs.Values.{is_null}
use Rattle.runs.proofs.all_zero.Given as goal

abbrev pub invariant-loop-first : goal.invariant-loop-first
invariant-loop-first l = all is_null l.left ≡ all is_null l.words

abbrev pub decreases-loop-first : goal.decreases-loop-first
decreases-loop-first l = length l.left
