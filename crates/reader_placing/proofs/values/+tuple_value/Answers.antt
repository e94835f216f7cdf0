-- What a tuple and a value are lent and what they leave, as the lemmas of `Fields` say.
use Prim.Native.Nat.{ℕ, ◌+◌}
use native.Mathlib.Omega.{arith}
use mathlib.Core.Path.{sym, ap, ◌∙◌}
use Rattle.model.specs.Trees as Trees
use Rattle.reader_placing.proofs.Trails.{close_of}
use Rattle.reader_placing.proofs.Fields.{field_inside, value_inside, node-case, leaf-case, node-laid, leaf-laid, turn, told-count, no_field-laid, two_bytes, begins, lead_inside, ends}
use Rattle.reader_placing.proofs.values.+tuple_value.Goals as goal

pub tuple-overflow_add-result : goal.tuple-overflow_add-result
tuple-overflow_add-result t c = omega (arith, two_bytes _ _ _ _ _ _ _ c.requires.1 c.if-count-eq0.true)

pub tuple-returns-then-count-eq0 : goal.tuple-returns-then-count-eq0
tuple-returns-then-count-eq0 t c = λ g a. no_field-laid _ _ _ _ _ _ g a _ c.header.ensures c.if-count-eq0.true

pub tuple-overflow_add-reached : goal.tuple-overflow_add-reached
tuple-overflow_add-reached t c =
    omega (arith, lead_inside _ _ _ _ _ _ _ c.requires.1 _ c.opener_width.result c.header.ensures c.opener_width.ensures c.if-count-eq0.false)

pub tuple-value-reached-requires : goal.tuple-value-reached-requires
tuple-value-reached-requires t c =
    let g = c.requires.0 in
    let a = c.requires.1 in
    let told = (told-count _ _ _ _ _ _ g a).is in
    let going = c.loop-field.invariant (close_of (Trees.count g)) g
    (begins _ _ _ _ _ _ g a _ _ c.header.ensures c.opener_width.ensures c.if-count-eq0.false)
    (ap (λ (m : ℕ). c.args.free + 1 + m) (sym told)) in
    let n = turn _ _ _ _ _ _ _ _ _ _ _ _ _ _ going (omega (arith, c.loop-field-test.true, told)) in
    (omega arith, (n.value, n.value_at))

pub tuple-overflow_add-reached-in-loop-field : goal.tuple-overflow_add-reached-in-loop-field
tuple-overflow_add-reached-in-loop-field t c =
    let g = c.requires.0 in
    let a = c.requires.1 in
    let told = (told-count _ _ _ _ _ _ g a).is in
    let going = c.loop-field.invariant (close_of (Trees.count g)) g
    (begins _ _ _ _ _ _ g a _ _ c.header.ensures c.opener_width.ensures c.if-count-eq0.false)
    (ap (λ (m : ℕ). c.args.free + 1 + m) (sym told)) in
    let n = turn _ _ _ _ _ _ _ _ _ _ _ _ _ _ going (omega (arith, c.loop-field-test.true, told)) in
    omega (arith, n.behind _ _ _ _ (c.value-reached.ensures n.value n.value_at))

pub tuple-loop-field-preserved : goal.tuple-loop-field-preserved
tuple-loop-field-preserved t c = λ e g a m.
    let n = turn _ _ _ _ _ _ _ _ _ _ _ _ _ _ (c.loop-field.invariant e g a m) (omega (arith, c.loop-field-test.true, m)) in
    n.again _ _ _ _ (c.value-reached.ensures n.value n.value_at)

pub tuple-returns : goal.tuple-returns
tuple-returns t c = λ g a.
    let told = (told-count _ _ _ _ _ _ g a).is in
    let going = c.loop-field.invariant (close_of (Trees.count g)) g
    (begins _ _ _ _ _ _ g a _ _ c.header.ensures c.opener_width.ensures c.if-count-eq0.false)
    (ap (λ (m : ℕ). c.args.free + 1 + m) (sym told)) in
    ends _ _ _ _ _ _ g a _ _ c.header.ensures c.opener_width.ensures c.if-count-eq0.false _ _ _ _ _ going c.loop-field-test.false

pub value-bounds-text-from : goal.value-bounds-text-from
value-bounds-text-from t c = value_inside _ _ _ _ _ _ _ _ c.requires.1

pub value-overflow_sub-depth : goal.value-overflow_sub-depth
value-overflow_sub-depth t c =
    (node-case _ _ _ _ _ _ c.requires.0 _ 0 c.requires.1 (sym c.is_opener.ensures ∙ c.if-is_opener.true)).deep

pub value-tuple-requires : goal.value-tuple-requires
value-tuple-requires t c =
    let n = node-case _ _ _ _ _ _ c.requires.0 _ c.address_of.result.0 c.requires.1 (sym c.is_opener.ensures ∙ c.if-is_opener.true) in
    (omega (arith, n.deep), (n.fields, n.tuple_at))

pub value-returns-then-is_opener : goal.value-returns-then-is_opener
value-returns-then-is_opener t c = λ v a.
    let w = c.address_of.result.0 in
    let n = node-case _ _ _ _ _ _ v _ w a (sym c.is_opener.ensures ∙ c.if-is_opener.true) in
    node-laid _ _ _ _ _ _ _ _ _ _ v _ w n c.address_of.ensures (c.tuple.ensures n.fields n.tuple_at)

pub value-integer-behind-requires : goal.value-integer-behind-requires
value-integer-behind-requires t c =
    let n = leaf-case _ _ _ _ _ _ c.requires.0 _ c.requires.1 (sym c.is_opener.ensures ∙ c.if-is_opener.false) in
    (field_inside _ _ _ _ _ _ _ _ c.requires.1, (n.number, n.integer_at))

pub value-returns : goal.value-returns
value-returns t c = λ v a.
    let n = leaf-case _ _ _ _ _ _ v _ a (sym c.is_opener.ensures ∙ c.if-is_opener.false) in
    leaf-laid _ _ _ _ _ _ v n _ _ (c.integer-behind.ensures n.number n.integer_at)
