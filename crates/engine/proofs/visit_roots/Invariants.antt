-- `engine::visit_roots` meets its contract. The invariant: the roots renamed so far, with what the others
-- give, are what all gave.
use mathlib.Core.Path.{◌≡◌}
use lib.ListN.{take, drop}
use Rattle.model.specs.Headers.{tuple}
use Rattle.engine_moving.specs.Moving.{none_met}
use Rattle.engine.specs.Evacuation.{rooted, SafeRoots}
use Rattle.engine.proofs.RootLaws.{joined}
use Rattle.engine.proofs.visit_roots.Given as goal

abbrev pub invariant-loop-root : goal.invariant-loop-root
invariant-loop-root l =
    (joined (take l.root-index l.roots) (rooted tuple l.heap (drop l.root-index l.roots) l.so_far.free.0 l.so_far.tally)
    ≡ rooted tuple l.initial.heap l.initial.roots l.fn.new.0 none_met)
    × SafeRoots tuple l.heap (drop l.root-index l.roots) l.so_far.free.0 l.so_far.tally
