-- `writer_measuring::measure` and `writer_measuring::measure_tuple` meet their contracts, by the laws of a word's pieces and of a
-- tuple's.
use Rattle.std.proofs.Common.{◌≡◌, ◌+◌, ◌-◌, ◌<◌, ◌≤◌, ℕ, List, length, get_or, ap, ◌∙◌, arith, sym}
use Rattle.std.proofs.lemmas.Result.{err_from_is_err_and, IfOk-at_ok}
use borrow.Author.Tests.{eq-eqb, ne_eqb}
use Rattle.model.specs.declared.Refusal.TheVariants as Why
use Rattle.model.specs.Texts.{value_pieces, tuple_pieces}
use Rattle.writer_measuring.specs.Packing.{limit}
use Rattle.writer_measuring.specs.Measured.{measured}
use Rattle.writer_measuring.specs.Forms.{fields_at, form_in}
use Rattle.writer_measuring.specs.Tuples.{tuple_in, object_in}
use Rattle.model.specs.Headers.{tuple}
use Rattle.model.specs.Objects.{field_count}
use Rattle.writer_measuring.proofs.Rooms.{at-fault, none_left, some_left, measured-fits}
use Rattle.writer_measuring.proofs.Leads.{taken, taken_lem, more_fields, no_more_fields}
use Rattle.writer_measuring.proofs.Fields.{rest_pieces, none-measured, all-measured, lead-stops, field-stops, field_on, end-left}
use Rattle.writer_measuring.proofs.Sorts.{tuple-more, tuple-deep, odd-left, tuple_found, tuple_refused, told_inside, told_nested}
use Rattle.writer_measuring.proofs.+measure_measure_tuple.Goals as goal

-- the fields of an object of the used part lie in the heap
within : (H : List ℕ) (free object count : ℕ) → free ≤ length H → object + field_count tuple H object < free
    → count ≡ field_count tuple H object → object + count < length H
within H free object count u h e = omega arith

-- what is left after a field, as the code takes it
field-left : (first free : ℕ) (H : List ℕ) (depth object count : ℕ) (w : object + count < length H) (field room : ℕ)
    → measured room (value_pieces (form_in first free H) depth (get_or (taken H object count w) field 0))
    ≡ measured room (value_pieces (form_in first free H) depth (get_or (fields_at H object count) field 0))
field-left first free H depth object count w field room =
    ap (λ (ws : List ℕ). measured room (value_pieces (form_in first free H) depth (get_or ws field 0)))
    (taken_lem H object count w)

-- the tuple of so many fields is that of the object
counted : (first free : ℕ) (H : List ℕ) (depth object count room : ℕ) → count ≡ field_count tuple H object
    → measured room (tuple_in first free H depth object count) ≡ measured room (object_in first free H depth object)
counted first free H depth object count room e = ap (λ (n : ℕ). measured room (tuple_in first free H depth object n)) e

-- after what is left of a tuple there is left what is left after all of it
rest-left : (first free : ℕ) (H : List ℕ) (depth object count room left field : ℕ) → count ≡ field_count tuple H object
    → object + count < length H → (count ≡ 0 → ⊥)
    → measured left (rest_pieces first free H depth object count field)
    ≡ measured room (rest_pieces first free H depth object count 0)
    → measured left (rest_pieces first free H depth object count field) ≡ measured room (object_in first free H depth object)
rest-left first free H depth object count room left field e w some i =
    i ∙ (all-measured first free H depth object count w some room ∙ counted first free H depth object count room e)

-- the tuple with its own level counted
nested : (first free : ℕ) (H : List ℕ) (depth object room : ℕ) → (depth ≡ 0 → ⊥)
    → measured room (object_in first free H (depth - 1) object)
    ≡ measured room (tuple_pieces (form_in first free H) depth (fields_at H object (field_count tuple H object)))
nested first free H depth object room some =
    ap (measured room) (sym (tuple-more (form_in first free H) depth some (fields_at H object (field_count tuple H object))))

pub measure-returns-then-word-eq1 : goal.measure-returns-then-word-eq1
measure-returns-then-word-eq1 t c =
    let a = c.args in
    let u = a.used.now in
    c.spend.ensures
    ∙ odd-left u.first u.free u.heap.now a.depth a.word (eq-eqb _ _ c.if-word-eq1.true) a.room _ c.integer_bytes.ensures

pub measure-returns-in_err-object : goal.measure-returns-in_err-object
measure-returns-in_err-object t c =
    let a = c.args in
    let u = a.used.now in
    let p = err_from_is_err_and c.from_residual.result c.from_residual.ensures.1 in
    rw (p.1, p.2)
    (at-fault _ a.room
    ∙ ap (measured a.room)
    (tuple_refused u.first u.free u.heap.now a.word _ c.in_err-object.ensures a.depth (ne_eqb _ _ c.if-word-eq1.false)))

pub measure-measure_tuple-requires : goal.measure-measure_tuple-requires
measure-measure_tuple-requires t c =
    let u = c.args.used.now in
    let found = tuple_found u.first u.free u.heap.now c.args.word _ c.in_ok-object.ensures in
    (omega (arith, c.decreases), (told_inside u.first u.free u.heap.now c.args.word _ found.0 found.1, c.requires))

pub measure-returns : goal.measure-returns
measure-returns t c =
    let a = c.args in
    let u = a.used.now in
    let found = tuple_found u.first u.free u.heap.now a.word _ c.in_ok-object.ensures in
    c.told.ensures
    ∙ (c.measure_tuple.ensures
    ∙ ap (measured a.room)
    (told_nested u.first u.free u.heap.now a.word _ found.0 found.1 a.depth (ne_eqb _ _ c.if-word-eq1.false)))

pub measure_tuple-returns-then-depth-eq0 : goal.measure_tuple-returns-then-depth-eq0
measure_tuple-returns-then-depth-eq0 t c =
    let a = c.args in
    c.of.ensures ∙ (at-fault Why.Deep a.room ∙ ap (measured a.room) (tuple-deep _ a.depth c.if-depth-eq0.true _))

pub measure_tuple-returns-then-count-eq0 : goal.measure_tuple-returns-then-count-eq0
measure_tuple-returns-then-count-eq0 t c =
    let a = c.args in
    let u = a.used.now in
    let n = c.count_of-count in
    c.of-then-count-eq0.ensures
    ∙ (c.spend.ensures
    ∙ (none-measured u.first u.free u.heap.now (a.depth - 1) a.object n.result
    (within u.heap.now u.free a.object n.result u.within c.requires.inside n.ensures.is)
    c.if-count-eq0.true a.room
    ∙ counted u.first u.free u.heap.now (a.depth - 1) a.object n.result a.room n.ensures.is
    ∙ nested u.first u.free u.heap.now a.depth a.object a.room c.if-depth-eq0.false))

pub measure_tuple-returns-then-left-lead : goal.measure_tuple-returns-then-left-lead
measure_tuple-returns-then-left-lead t c =
    let a = c.args in
    let u = a.used.now in
    let n = c.count_of-count in
    let l = c.loop-word in
    let w = within u.heap.now u.free a.object n.result u.within c.requires.inside n.ensures.is in
    c.of-then-left-lead.ensures
    ∙ (lead-stops u.first u.free u.heap.now (a.depth - 1) a.object n.result w l.left l.word-index
    (more_fields u.heap.now a.object n.result w l.word-index c.loop-word-test.true) _ c.lead_bytes-lead.ensures
    _ (none_left _ _ c.if-left-lead.true)
    ∙ rest-left u.first u.free u.heap.now (a.depth - 1) a.object n.result a.room l.left l.word-index n.ensures.is w
    c.if-count-eq0.false l.invariant.same
    ∙ nested u.first u.free u.heap.now a.depth a.object a.room c.if-depth-eq0.false)

pub measure_tuple-returns-in-Err : goal.measure_tuple-returns-in-Err
measure_tuple-returns-in-Err t c =
    let a = c.args in
    let u = a.used.now in
    let n = c.count_of-count in
    let l = c.loop-word in
    let w = within u.heap.now u.free a.object n.result u.within c.requires.inside n.ensures.is in
    c.of-in-Err.ensures
    ∙ (field-stops u.first u.free u.heap.now (a.depth - 1) a.object n.result w l.left l.word-index
    (more_fields u.heap.now a.object n.result w l.word-index c.loop-word-test.true) _ c.lead_bytes-lead.ensures
    _ (some_left _ _ c.if-left-lead.false) _
    (c.in-Err.ensures
    ∙ field-left u.first u.free u.heap.now (a.depth - 1) a.object n.result w l.word-index (l.left - c.lead_bytes-lead.result))
    ∙ rest-left u.first u.free u.heap.now (a.depth - 1) a.object n.result a.room l.left l.word-index n.ensures.is w
    c.if-count-eq0.false l.invariant.same
    ∙ nested u.first u.free u.heap.now a.depth a.object a.room c.if-depth-eq0.false)

pub measure_tuple-loop-word-preserved : goal.measure_tuple-loop-word-preserved
measure_tuple-loop-word-preserved t c =
    let a = c.args in
    let u = a.used.now in
    let n = c.count_of-count in
    let l = c.loop-word in
    let w = within u.heap.now u.free a.object n.result u.within c.requires.inside n.ensures.is in
    record {
      small =
          IfOk-at_ok (λ (m : ℕ). m < limit) (sym c.in-Ok.ensures)
          (measured-fits _ (l.left - c.lead_bytes-lead.result) (omega (arith, l.invariant.small)));
      same =
          field_on u.first u.free u.heap.now (a.depth - 1) a.object n.result w l.left l.word-index
          (more_fields u.heap.now a.object n.result w l.word-index c.loop-word-test.true) _ c.lead_bytes-lead.ensures
          _ (some_left _ _ c.if-left-lead.false) _
          (c.in-Ok.ensures
          ∙ field-left u.first u.free u.heap.now (a.depth - 1) a.object n.result w l.word-index (l.left - c.lead_bytes-lead.result))
          ∙ l.invariant.same;
    }

pub measure_tuple-returns : goal.measure_tuple-returns
measure_tuple-returns t c =
    let a = c.args in
    let u = a.used.now in
    let n = c.count_of-count in
    let l = c.loop-word in
    let w = within u.heap.now u.free a.object n.result u.within c.requires.inside n.ensures.is in
    c.of-2.ensures
    ∙ (c.spend-2.ensures
    ∙ (end-left u.first u.free u.heap.now (a.depth - 1) a.object n.result w l.left l.word-index
    (no_more_fields u.heap.now a.object n.result w l.word-index c.loop-word-test.false)
    ∙ rest-left u.first u.free u.heap.now (a.depth - 1) a.object n.result a.room l.left l.word-index n.ensures.is w
    c.if-count-eq0.false l.invariant.same
    ∙ nested u.first u.free u.heap.now a.depth a.object a.room c.if-depth-eq0.false))
