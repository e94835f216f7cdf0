-- `engine::visit_roots` meets its contract. The invariant: the roots renamed so far, with what the others
-- give, are what all gave.
use Prim.Native.Nat.{◌<◌}
use native.Mathlib.Omega.{arith}
use mathlib.Core.Path.{sym, ◌∙◌}
use lib.ListN.{length}
use Rattle.engine.proofs.RootLaws.{roots-done, root_may, root-counts, root-safe, root_turn}
use Rattle.engine.proofs.visit_roots.Goals as goal

pub rename-renamed-requires : goal.rename-renamed-requires
rename-renamed-requires c =
    let l = c.loop-root in
    root_may _ _ l.roots _ l.root-index _ (omega arith) l.invariant.1

pub past-so_far-requires : goal.past-so_far-requires
past-so_far-requires c =
    let l = c.loop-root in
    root-counts _ l.heap l.roots l.so_far.free.0 l.root-index _ (omega arith) l.invariant.1

pub loop-root-preserved : goal.loop-root-preserved
loop-root-preserved c =
    let l = c.loop-root in
    let m : l.root-index < length l.roots = omega arith in
    let e = c.rename-renamed.ensures in
    let n = c.past-so_far.ensures.tally in
    rw c.past-so_far.ensures.free (
      root_turn _ _ _ _ _ _ m l.invariant.1 _ _ e n ∙ l.invariant.0,
      root-safe _ _ _ _ _ _ m l.invariant.1 _ _ e n,
    )

pub returns : goal.returns
returns c =
    let l = c.loop-root in
    sym (roots-done _ l.heap l.roots l.so_far.free.0 l.root-index l.so_far.tally (omega arith)) ∙ l.invariant.0
