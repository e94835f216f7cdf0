-- Each value by its first byte, each tuple by its fields and its closer, as the lemmas of `Sorts`, `Chains` and `Tuples` say.
use native.Mathlib.Omega.{arith}
use mathlib.Core.Path.{refl, sym, ◌∙◌}
use Rattle.model.specs.Reading.{start}
use Rattle.reader_numerals.proofs.Steps.{there, not_there}
use Rattle.reader_judging.proofs.Sorts.{refused, nothing, an_integer, too_deep, a_tuple}
use Rattle.reader_judging.proofs.Tuples.{no_fields, first_field, more-fields, closed}
use Rattle.reader_judging.proofs.Chains.{no_inner, not_closed, a_chain}
use Rattle.reader_judging.proofs.values.+values.Goals as goal

pub innermost-returns-then-at-text : goal.innermost-returns-then-at-text
innermost-returns-then-at-text t c = let a = c.args in
    refused start 0 a.depth a.text.now a.at _ _ _ _ (nothing _ _ _ c.if-at-text.true) c.refuse.ensures.0 c.refuse.ensures.1

pub innermost-returns-in-Some : goal.innermost-returns-in-Some
innermost-returns-in-Some t c = let a = c.args in
    an_integer a.depth a.text.now a.at a.found.now.words _ _ (sym c.is_opener.ensures ∙ c.if-not-is_opener.true) c.in-Some.ensures

pub innermost-returns-then-depth-eq0 : goal.innermost-returns-then-depth-eq0
innermost-returns-then-depth-eq0 t c = let a = c.args in
    refused start 0 a.depth a.text.now a.at _ _ _ _
    (too_deep _ _ _ (omega (arith, c.requires.0.within)) (sym c.is_opener.ensures ∙ c.if-not-is_opener.false) c.if-depth-eq0.true)
    c.refuse-then-depth-eq0.ensures.0 c.refuse-then-depth-eq0.ensures.1

pub innermost-returns : goal.innermost-returns
innermost-returns t c = let a = c.args in
    a_tuple a.depth a.text.now a.at (omega (arith, c.requires.0.within)) c.if-depth-eq0.false
    c.if-byte-ne-OPENER.false _ _ _ c.tuple.ensures

pub singles-returns-in_err-place : goal.singles-returns-in_err-place
singles-returns-in_err-place t c = let a = c.args in
    refused start 0 a.depth a.text.now a.at _ _ _ _ (no_inner _ _ _ a.found.now.words _ c.openings-levels.ensures _ c.in_err-place.ensures)
    c.from_residual.ensures refl

pub singles-returns-then-not-are_closed : goal.singles-returns-then-not-are_closed
singles-returns-then-not-are_closed t c = let a = c.args in
    refused start 0 a.depth a.text.now a.at _ _ _ _
    (not_closed _ _ _ a.found.now.words _ c.openings-levels.ensures _ _ c.in_ok-place.ensures _ c.are_closed.ensures c.if-not-are_closed.true)
    c.refuse.ensures.0 c.refuse.ensures.1

pub singles-returns : goal.singles-returns
singles-returns t c = let a = c.args in
    a_chain _ _ _ _ _ c.openings-levels.ensures _ _ c.in_ok-place.ensures _ c.are_closed.ensures c.if-not-are_closed.false _ _ refl (omega arith)

pub tuple-returns-then-is_at : goal.tuple-returns-then-is_at
tuple-returns-then-is_at t c = let a = c.args in
    let h = there a.text.now a.at 41 _ c.is_at.ensures c.if-is_at.true in
    no_fields a.depth a.text.now a.at a.found.now.words h.0 h.1

pub tuple-loop-next-init : goal.tuple-loop-next-init
tuple-loop-next-init t c = let a = c.args in
    first_field a.depth a.text.now a.at a.found.now.words c.requires.within
    (not_there a.text.now a.at 41 _ c.is_at.ensures c.if-is_at.false)

pub tuple-returns-then-not-is_at : goal.tuple-returns-then-not-is_at
tuple-returns-then-not-is_at t c = let a = c.args in
    closed a.depth a.text.now a.at a.found.now.words _ _ _ c.loop-next.invariant _ _ c.in_ok-next.ensures
    (not_there a.text.now c.in_ok-next.next 44 _ c.is_at-in-loop-next.ensures c.if-not-is_at.true) _ _ c.close.ensures

pub tuple-loop-next-preserved : goal.tuple-loop-next-preserved
tuple-loop-next-preserved t c = let a = c.args in
    let h = there a.text.now c.in_ok-next.next 44 _ c.is_at-in-loop-next.ensures c.if-not-is_at.false in
    more-fields a.depth a.text.now a.at a.found.now.words _ _ _ c.loop-next.invariant _ _ c.in_ok-next.ensures _ h.0 h.1 (omega arith)

pub value-returns-then-at-text : goal.value-returns-then-at-text
value-returns-then-at-text t c = let a = c.args in
    refused start 0 a.depth a.text.now a.at _ _ _ _ (nothing _ _ _ c.if-at-text.true) c.refuse.ensures.0 c.refuse.ensures.1

pub value-returns-in-Some : goal.value-returns-in-Some
value-returns-in-Some t c = let a = c.args in
    an_integer a.depth a.text.now a.at a.found.now.words _ _ (sym c.is_opener.ensures ∙ c.if-not-is_opener.true) c.in-Some.ensures

pub value-returns-then-depth-eq0 : goal.value-returns-then-depth-eq0
value-returns-then-depth-eq0 t c = let a = c.args in
    refused start 0 a.depth a.text.now a.at _ _ _ _
    (too_deep _ _ _ (omega (arith, c.requires.within)) (sym c.is_opener.ensures ∙ c.if-not-is_opener.false) c.if-depth-eq0.true)
    c.refuse-then-depth-eq0.ensures.0 c.refuse-then-depth-eq0.ensures.1

pub value-returns : goal.value-returns
value-returns t c = let a = c.args in
    a_tuple a.depth a.text.now a.at (omega (arith, c.requires.within)) c.if-depth-eq0.false
    c.if-byte-ne-OPENER.false _ _ _ c.tuple.ensures
