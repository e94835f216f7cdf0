-- `engine_scanning::pass_fields` meets its contract. The invariant: to pass the fields that are left gives
-- what passing all gave.
use native.Mathlib.Omega.{arith}
use mathlib.Core.Path.{sym, ◌∙◌}
use Rattle.engine_scanning.proofs.ObjectLaws.{field_may, field-counts, field-keeps, field-run, field-safe}
use Rattle.engine_scanning.proofs.ObjectLaws.{fields-done}
use Rattle.engine_scanning.proofs.pass_fields.Goals as goal

pub pass_field-renamed-requires : goal.pass_field-renamed-requires
pass_field-renamed-requires c =
    let l = c.loop-at in
    field_may _ _ _ _ _ _ c.loop-at-test.true l.invariant.0 l.invariant.2

pub past-so_far-requires : goal.past-so_far-requires
past-so_far-requires c =
    let l = c.loop-at in
    field-counts _ _ _ _ _ _ c.loop-at-test.true l.invariant.0 l.invariant.2

pub loop-at-preserved : goal.loop-at-preserved
loop-at-preserved c =
    let l = c.loop-at in
    let m = c.loop-at-test.true in
    let e = c.pass_field-renamed.ensures in
    let n = c.past-so_far.ensures.tally in
    let k = field-keeps _ _ _ _ _ _ m l.invariant.0 l.invariant.2 _ _ _ _ e n in
    rw c.past-so_far.ensures.free (
      omega (arith, k.grows),
      field-run _ _ _ _ _ _ m l.invariant.0 l.invariant.2 _ _ _ _ e n ∙ l.invariant.1,
      field-safe _ _ _ _ _ _ m l.invariant.0 l.invariant.2 _ _ _ _ e n,
    )

pub returns : goal.returns
returns c =
    let l = c.loop-at in
    sym (fields-done _ _ l.at _ _ _ (omega arith)) ∙ l.invariant.1
