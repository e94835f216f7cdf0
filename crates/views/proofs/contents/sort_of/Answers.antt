-- `views::contents::sort_of` meets its contract, by one law of its six tests.
use borrow.Author.Tests.{eq-eqb, ne_eqb}
use mathlib.Core.Path.{refl, sym, ◌∙◌}
use Rattle.model.specs.Words.{state_of}
use Rattle.model.specs.Headers.{tuple}
use Rattle.naming.proofs.NamedObjects.{free_in_heap}
use Rattle.views.proofs.Inspecting.{sort_tests}
use Rattle.views.specs.Sorts.{sort_of}
use Rattle.words.proofs.Admitted.{passed_on, refused_first, admitted_tests}
use Rattle.views.proofs.contents.sort_of.Goals as goal

pub returns-in_err-admit : goal.returns-in_err-admit
unfolding sort_of
returns-in_err-admit c = rw (passed_on _ c.from_residual.ensures.1) (refused_first _ _ _ c.admit.ensures.is c.in_err-admit.was)

pub returns-then-word-eq1 : goal.returns-then-word-eq1
returns-then-word-eq1 c =
    sort_tests tuple c.args.root (state_of c.args.heap.now c.args.roots.now c.args.«record») (admitted_tests _ _ c.admit.ensures.is c.in_ok-admit.was).0 (admitted_tests _ _ c.admit.ensures.is c.in_ok-admit.was).1
    (eq-eqb _ _ c.if-word-eq1.true) refl refl refl

pub returns-then-word-eq0 : goal.returns-then-word-eq0
returns-then-word-eq0 c =
    sort_tests tuple c.args.root (state_of c.args.heap.now c.args.roots.now c.args.«record») (admitted_tests _ _ c.admit.ensures.is c.in_ok-admit.was).0 (admitted_tests _ _ c.admit.ensures.is c.in_ok-admit.was).1
    (ne_eqb _ _ c.if-word-eq1.false) (eq-eqb _ _ c.if-word-eq0.true) refl refl

pub names-requires : goal.names-requires
names-requires c =
    free_in_heap (state_of c.args.heap.now c.args.roots.now c.args.«record») (admitted_tests _ _ c.admit.ensures.is c.in_ok-admit.was).0

pub returns-then-names : goal.returns-then-names
returns-then-names c =
    sort_tests tuple c.args.root (state_of c.args.heap.now c.args.roots.now c.args.«record») (admitted_tests _ _ c.admit.ensures.is c.in_ok-admit.was).0 (admitted_tests _ _ c.admit.ensures.is c.in_ok-admit.was).1
    (ne_eqb _ _ c.if-word-eq1.false) (ne_eqb _ _ c.if-word-eq0.false)
    (sym (c.names.ensures _) ∙ c.if-names.true) refl

pub returns-then-is_code : goal.returns-then-is_code
returns-then-is_code c =
    sort_tests tuple c.args.root (state_of c.args.heap.now c.args.roots.now c.args.«record») (admitted_tests _ _ c.admit.ensures.is c.in_ok-admit.was).0 (admitted_tests _ _ c.admit.ensures.is c.in_ok-admit.was).1
    (ne_eqb _ _ c.if-word-eq1.false) (ne_eqb _ _ c.if-word-eq0.false)
    (sym (c.names.ensures _) ∙ c.if-names.false) (sym c.is_code.ensures ∙ c.if-is_code.true)

pub returns : goal.returns
returns c =
    sort_tests tuple c.args.root (state_of c.args.heap.now c.args.roots.now c.args.«record») (admitted_tests _ _ c.admit.ensures.is c.in_ok-admit.was).0 (admitted_tests _ _ c.admit.ensures.is c.in_ok-admit.was).1
    (ne_eqb _ _ c.if-word-eq1.false) (ne_eqb _ _ c.if-word-eq0.false)
    (sym (c.names.ensures _) ∙ c.if-names.false) (sym c.is_code.ensures ∙ c.if-is_code.false)
