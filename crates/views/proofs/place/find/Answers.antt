-- `views::place::find` meets its contract, by one law of its tests; an object that is named lies in the heap.
use native.Mathlib.Omega.{arith}
use borrow.Author.Tests.{le-leb, lt-leb}
use mathlib.Core.Path.{refl, sym, ap, ◌∙◌}
use mathlib.Core.Bool.{not}
use Rattle.model.specs.Words.{state_of}
use Rattle.model.specs.Headers.{tuple}
use Rattle.naming.proofs.NamedObjects.{free_in_heap, header-below}
use Rattle.views.proofs.Finding.{window_tests}
use Rattle.views.proofs.place.find.Goals as goal

pub returns-then-bad_shape : goal.returns-then-bad_shape
returns-then-bad_shape c = window_tests _ _ _ (sym c.bad_shape.ensures ∙ c.if-bad_shape.true) refl refl refl refl refl

pub returns-then-roots-object : goal.returns-then-roots-object
returns-then-roots-object c = window_tests _ _ _ (sym c.bad_shape.ensures ∙ c.if-bad_shape.false) (le-leb _ _ c.if-roots-object.true) refl refl refl refl

pub names-requires : goal.names-requires
names-requires c =
    free_in_heap (state_of c.args.heap.now c.args.roots.now c.args.«record») (sym c.bad_shape.ensures ∙ c.if-bad_shape.false)

pub returns-then-not-names : goal.returns-then-not-names
returns-then-not-names c =
    window_tests tuple c.args.object (state_of c.args.heap.now c.args.roots.now c.args.«record») (sym c.bad_shape.ensures ∙ c.if-bad_shape.false) (lt-leb _ _ c.if-roots-object.false)
    (ap not (sym (c.names.ensures c.args.roots.now) ∙ c.if-not-names.true)) refl refl refl

pub bounds-heap-at : goal.bounds-heap-at
bounds-heap-at c = (header-below _ (state_of c.args.heap.now c.args.roots.now c.args.«record») _ _ c.index_of-at.ensures (sym c.bad_shape.ensures ∙ c.if-bad_shape.false) (sym (c.names.ensures _) ∙ c.if-not-names.false))

pub returns : goal.returns
returns c =
    window_tests tuple c.args.object (state_of c.args.heap.now c.args.roots.now c.args.«record») (sym c.bad_shape.ensures ∙ c.if-bad_shape.false) (lt-leb _ _ c.if-roots-object.false)
    (ap not (sym (c.names.ensures _) ∙ c.if-not-names.false)) (omega (arith, c.index_of-at.ensures)) c.index_of-at.ensures
    c.count_of-count.ensures.is
