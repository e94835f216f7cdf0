-- `engine_scanning::pass_objects` meets its contract. The invariant: to pass what is left gives what passing all gave.
use mathlib.Core.Path.{ap, ◌∙◌}
use Rattle.model.specs.Headers.{tuple}
use Rattle.engine_scanning.specs.Scanning.{ended}
use Rattle.engine_scanning.proofs.ObjectLaws.{object_may, object_less, object-run, object-safe}
use Rattle.engine_scanning.proofs.ObjectLaws.{objects-done}
use Rattle.engine_scanning.proofs.pass_objects.Goals as goal

pub pass_object-so_far-requires : goal.pass_object-so_far-requires
pass_object-so_far-requires c = object_may _ _ _ _ _ c.loop-so_far-test.true c.loop-so_far.invariant.1

pub loop-so_far-smaller : goal.loop-so_far-smaller
loop-so_far-smaller c =
    let l = c.loop-so_far in
    object_less tuple l.heap _ _ _ c.loop-so_far-test.true l.invariant.1 _ _ _ _ c.pass_object-so_far.ensures

pub loop-so_far-preserved : goal.loop-so_far-preserved
loop-so_far-preserved c =
    let l = c.loop-so_far in
    let m = c.loop-so_far-test.true in
    let e = c.pass_object-so_far.ensures in (
      object-run tuple l.heap _ _ _ m l.invariant.1 _ _ _ _ e ∙ l.invariant.0,
      object-safe tuple l.heap _ _ _ m l.invariant.1 _ _ _ _ e,
    )

pub returns : goal.returns
returns c = objects-done _ _ _ _ _ _ c.loop-so_far-test.false ∙ ap ended c.loop-so_far.invariant.0
