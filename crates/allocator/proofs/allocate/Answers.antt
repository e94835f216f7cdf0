-- `allocator::allocate` meets its contract: one case of the definition for each return.
use mathlib.Core.Path.{sym}
use native.Mathlib.Omega.{arith}
use Rattle.model.specs.Headers.{tuple}
use Rattle.model.specs.Words.{state_of}
use Rattle.theory.proofs.Shape as Shape
use Rattle.theory.proofs.Refusing.{said}
use Rattle.allocator.proofs.AllocateCases.{allocate_refused, allocate-count, allocate_retry}
use Rattle.placing.proofs.PlacingLaws.{allocate_now, may_spare, may_place}
use Rattle.std.proofs.lemmas.Result.{IfOk-at_ok}
use Rattle.words.proofs.Admitted.{admitted_tests}
use Rattle.allocator.proofs.allocate.Goals as goal

pub returns-in-Err : goal.returns-in-Err
returns-in-Err c = said _ _ c.refuse.ensures (allocate_refused tuple _ _ _ _ c.admit.ensures.is c.in-Err.is)

pub returns-then-fields-gt-MAX_FIELDS : goal.returns-then-fields-gt-MAX_FIELDS
returns-then-fields-gt-MAX_FIELDS c =
    said _ _ c.refuse-then-fields-gt-MAX_FIELDS.ensures
    (sym (allocate-count tuple _ _ _ _ (admitted_tests _ _ c.admit.ensures.is c.in_default.is).0 (IfOk-at_ok _ c.in_default.is c.admit.ensures.there) c.if-fields-gt-MAX_FIELDS.true))

pub spare_of-requires : goal.spare_of-requires
spare_of-requires c =
    may_spare (state_of c.args.heap.now c.args.roots.now c.args.«record») (Shape.shaped (state_of c.args.heap.now c.args.roots.now c.args.«record») (admitted_tests _ _ c.admit.ensures.is c.in_default.is).0)

pub place-placed-requires : goal.place-placed-requires
place-placed-requires c =
    may_place (state_of c.args.heap.now c.args.roots.now c.args.«record») c.args.fields c.args.to
    (Shape.shaped (state_of c.args.heap.now c.args.roots.now c.args.«record») (admitted_tests _ _ c.admit.ensures.is c.in_default.is).0) (IfOk-at_ok _ c.in_default.is c.admit.ensures.there) c.if-fields-gt-MAX_FIELDS.false
    (omega (arith, c.spare_of.ensures, c.if-fields-spare_of.true))

pub returns-then-fields-spare_of : goal.returns-then-fields-spare_of
returns-then-fields-spare_of c =
    said _ _ c.say.ensures
    (rw (
      allocate_now tuple c.args.kind c.args.fields c.args.to (state_of c.args.heap.now c.args.roots.now c.args.«record»)
          (admitted_tests _ _ c.admit.ensures.is c.in_default.is).0 (IfOk-at_ok _ c.in_default.is c.admit.ensures.there) c.if-fields-gt-MAX_FIELDS.false
          (omega (arith, c.spare_of.ensures, c.if-fields-spare_of.true)),
      ← c.place-placed.ensures,
    ))

pub returns : goal.returns
returns c =
    rw
    (allocate_retry tuple c.args.kind c.args.fields c.args.to (state_of c.args.heap.now c.args.roots.now c.args.«record»)
    (admitted_tests _ _ c.admit.ensures.is c.in_default.is).0 (IfOk-at_ok _ c.in_default.is c.admit.ensures.there) c.if-fields-gt-MAX_FIELDS.false
    (omega (arith, c.spare_of.ensures, c.if-fields-spare_of.false)))
    c.retry.ensures
