-- `naming::field_of` meets its contract, by one law of its three tests; an object that is named lies in the heap.
use borrow.Author.Tests.{le-leb, lt-leb}
use Prim.Native.Nat.{ℕ}
use native.Mathlib.Omega.{arith}
use mathlib.Core.Path.{refl, sym, ap, ◌∙◌}
use lib.Dec.{leb}
use mathlib.Core.Bool.{not}
use mathlib.Core.List.{[]}
use Rattle.model.specs.Words.{state_of}
use Rattle.naming.proofs.NamedObjects.{header_in, other-kind, field_tests}
use Rattle.naming.proofs.field_of.Goals as goal

pub returns-then-not-names : goal.returns-then-not-names
returns-then-not-names c = λ R.
    field_tests _ _ _ _ _ (state_of c.args.heap.now R c.args.«record») refl
    (ap not (sym (c.names.ensures R) ∙ c.if-not-names.true)) refl refl

pub bounds-heap-at : goal.bounds-heap-at
bounds-heap-at c =
    rw c.index_of-at.ensures
    (header_in _ _ [] _ _ c.requires (sym (c.names.ensures []) ∙ c.if-not-names.false))

pub returns-then-ne : goal.returns-then-ne
returns-then-ne c = λ R.
    field_tests _ _ _ _ _ (state_of c.args.heap.now R c.args.«record») c.index_of-at.ensures
    (ap not (sym (c.names.ensures R) ∙ c.if-not-names.false))
    (other-kind c.args.kind c.kind_of.ensures (sym c.ne.ensures ∙ c.if-ne.true)) refl

pub returns-then-count_of-field : goal.returns-then-count_of-field
returns-then-count_of-field c = λ R.
    field_tests _ _ _ _ _ (state_of c.args.heap.now R c.args.«record») c.index_of-at.ensures
    (ap not (sym (c.names.ensures R) ∙ c.if-not-names.false))
    (other-kind c.args.kind c.kind_of.ensures (sym c.ne.ensures ∙ c.if-ne.false))
    (ap (λ (n : ℕ). leb n c.args.field) (sym c.count_of.ensures.is)
    ∙ le-leb c.count_of.result c.args.field (omega arith))

pub returns : goal.returns
returns c = λ R.
    field_tests _ _ _ _ _ (state_of c.args.heap.now R c.args.«record») c.index_of-at.ensures
    (ap not (sym (c.names.ensures R) ∙ c.if-not-names.false))
    (other-kind c.args.kind c.kind_of.ensures (sym c.ne.ensures ∙ c.if-ne.false))
    (ap (λ (n : ℕ). leb n c.args.field) (sym c.count_of.ensures.is) ∙ lt-leb _ _ c.if-count_of-field.false)
