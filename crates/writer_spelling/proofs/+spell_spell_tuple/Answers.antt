-- `writer_spelling::spell` and `writer_spelling::spell_tuple` meet their contracts, by the laws of where a writer goes over a word's
-- pieces and a tuple's.
use Rattle.std.proofs.Common.{◌≡◌, ◌+◌, ◌<◌, ◌≤◌, ℕ, List, length, get_or, sym, ap, subst, ◌∙◌, arith}
use native.Mathlib.Nat.{pos_of_ne-zero}
use borrow.Author.Tests.{eq-eqb, ne_eqb}
use Rattle.model.specs.Texts.{Piece, value_pieces}
use Rattle.model.specs.Headers.{tuple}
use Rattle.model.specs.Objects.{field_count}
use Rattle.writer_measuring.specs.Forms.{fields_at, form_in}
use Rattle.writer_measuring.specs.Tuples.{tuple_in, object_in}
use Rattle.writer_measuring.proofs.Leads.{taken, taken_lem, more_fields, no_more_fields}
use Rattle.writer_measuring.proofs.Fields.{rest_pieces}
use Rattle.writer_measuring.proofs.Sorts.{odd_pieces, told_inside, told_pieces}
use Rattle.writer_spelling.specs.Going.{goes, Arrives}
use Rattle.writer_spelling.proofs.Fields.{none-goes, none-room, all-goes, lead-room, field_arrives, field-goes, end-room, end_goes}
use Rattle.writer_spelling.proofs.Sorts.{odd-room, arrives_told, arrives_levels}
use Rattle.writer_spelling.proofs.+spell_spell_tuple.Goals as goal

-- the fields of an object of the used part lie in the heap
within : (H : List ℕ) (free object count : ℕ) → free ≤ length H → object + field_count tuple H object < free
    → count ≡ field_count tuple H object → object + count < length H
within H free object count u h e = omega arith

-- where a field goes, as the code takes it
field-taken : (first free : ℕ) (H : List ℕ) (depth object count : ℕ) (w : object + count < length H) (field place : ℕ) (t : List ℕ)
    → goes (value_pieces (form_in first free H) depth (get_or (taken H object count w) field 0)) place t
    ≡ goes (value_pieces (form_in first free H) depth (get_or (fields_at H object count) field 0)) place t
field-taken first free H depth object count w field place t =
    ap (λ (ws : List ℕ). goes (value_pieces (form_in first free H) depth (get_or ws field 0)) place t)
    (taken_lem H object count w)

module _ (first free : ℕ) (H : List ℕ) (depth object count : ℕ) (e : count ≡ field_count tuple H object) (place : ℕ)
    (t : List ℕ) where
  -- the tuple of so many fields is that of the object
  counted : goes (tuple_in first free H depth object count) place t ≡ goes (object_in first free H depth object) place t
  counted = ap (λ (n : ℕ). goes (tuple_in first free H depth object n) place t) e

  counted_arrives : Arrives (goes (object_in first free H depth object) place t)
      → Arrives (goes (tuple_in first free H depth object count) place t)
  counted_arrives a = subst Arrives (sym counted) a

  -- what is left of it goes where all of it goes, and no piece of it refuses
  module _ (w : object + count < length H) (some : count ≡ 0 → ⊥) (field here : ℕ) (u : List ℕ)
      (same : goes (rest_pieces first free H depth object count field) here u
      ≡ goes (rest_pieces first free H depth object count 0) place t) where
    rest-goes : goes (rest_pieces first free H depth object count field) here u
        ≡ goes (object_in first free H depth object) place t
    rest-goes = same ∙ (all-goes first free H depth object count w place t some ∙ counted)

    rest_arrives : Arrives (goes (object_in first free H depth object) place t)
        → Arrives (goes (rest_pieces first free H depth object count field) here u)
    rest_arrives a = subst Arrives (sym rest-goes) a

pub spell-spell_integer-requires : goal.spell-spell_integer-requires
spell-spell_integer-requires t c =
    let a = c.args in
    let u = a.used.now in
    odd-room u.first u.free u.heap.now a.depth a.word a.at a.text.now (eq-eqb _ _ c.if-word-eq1.true) c.requires

pub spell-returns-then-word-eq1 : goal.spell-returns-then-word-eq1
spell-returns-then-word-eq1 t c =
    let a = c.args in
    let u = a.used.now in
    c.spell_integer.ensures
    ∙ ap (λ (ps : List Piece). goes ps a.at a.text.now)
    (odd_pieces u.first u.free u.heap.now a.depth a.word (eq-eqb _ _ c.if-word-eq1.true))

-- an even word names a tuple, and a level is left
pub spell-overflow_sub-depth : goal.spell-overflow_sub-depth
spell-overflow_sub-depth t c =
    let a = c.args in
    let u = a.used.now in
    pos_of_ne-zero
    (arrives_levels u.first u.free u.heap.now a.depth a.word a.at a.text.now (ne_eqb _ _ c.if-word-eq1.false) c.requires)

pub spell-spell_tuple-requires : goal.spell-spell_tuple-requires
spell-spell_tuple-requires t c =
    let a = c.args in
    let u = a.used.now in
    let even = ne_eqb _ _ c.if-word-eq1.false in
    let told = arrives_told u.first u.free u.heap.now a.depth a.word a.at a.text.now even c.requires in
    let levels = arrives_levels u.first u.free u.heap.now a.depth a.word a.at a.text.now even c.requires in
    let some = pos_of_ne-zero levels in (
      omega (arith, c.decreases),
      (
        told_inside u.first u.free u.heap.now a.word _ c.index_of-object.ensures told,
        subst (λ (ps : List Piece). Arrives (goes ps a.at a.text.now))
            (sym (told_pieces u.first u.free u.heap.now a.word _ c.index_of-object.ensures told a.depth even levels)) c.requires,
      ),
    )

pub spell-returns : goal.spell-returns
spell-returns t c =
    let a = c.args in
    let u = a.used.now in
    let even = ne_eqb _ _ c.if-word-eq1.false in
    let told = arrives_told u.first u.free u.heap.now a.depth a.word a.at a.text.now even c.requires in
    let levels = arrives_levels u.first u.free u.heap.now a.depth a.word a.at a.text.now even c.requires in
    c.spell_tuple.ensures
    ∙ ap (λ (ps : List Piece). goes ps a.at a.text.now)
    (told_pieces u.first u.free u.heap.now a.word _ c.index_of-object.ensures told a.depth even levels)

pub spell_tuple-spell_none-requires : goal.spell_tuple-spell_none-requires
spell_tuple-spell_none-requires t c =
    let a = c.args in
    let u = a.used.now in
    let n = c.count_of-count in
    let w = within u.heap.now u.free a.object n.result u.within c.requires.inside n.ensures.is in
    none-room u.first u.free u.heap.now a.depth a.object n.result w a.at a.text.now c.if-count-eq0.true
    (counted_arrives u.first u.free u.heap.now a.depth a.object n.result n.ensures.is a.at a.text.now c.requires.room)

pub spell_tuple-returns-then-count-eq0 : goal.spell_tuple-returns-then-count-eq0
spell_tuple-returns-then-count-eq0 t c =
    let a = c.args in
    let u = a.used.now in
    let n = c.count_of-count in
    let w = within u.heap.now u.free a.object n.result u.within c.requires.inside n.ensures.is in
    c.spell_none.ensures
    ∙ (none-goes u.first u.free u.heap.now a.depth a.object n.result w a.at a.text.now c.if-count-eq0.true
    ∙ counted u.first u.free u.heap.now a.depth a.object n.result n.ensures.is a.at a.text.now)

pub spell_tuple-spell_lead-from-requires : goal.spell_tuple-spell_lead-from-requires
spell_tuple-spell_lead-from-requires t c =
    let a = c.args in
    let u = a.used.now in
    let n = c.count_of-count in
    let l = c.loop-field in
    let w = within u.heap.now u.free a.object n.result u.within c.requires.inside n.ensures.is in
    lead-room u.first u.free u.heap.now a.depth a.object n.result w l.field l.place l.text
    (rest_arrives u.first u.free u.heap.now a.depth a.object n.result n.ensures.is a.at a.text.now w c.if-count-eq0.false
    l.field l.place l.text l.invariant.same c.requires.room)
    (more_fields u.heap.now a.object n.result w l.field c.loop-field-test.true)

pub spell_tuple-spell-place-requires : goal.spell_tuple-spell-place-requires
spell_tuple-spell-place-requires t c =
    let a = c.args in
    let u = a.used.now in
    let n = c.count_of-count in
    let l = c.loop-field in
    let lead = c.spell_lead-from in
    let w = within u.heap.now u.free a.object n.result u.within c.requires.inside n.ensures.is in (
      omega (arith, c.decreases),
      subst Arrives (sym (field-taken u.first u.free u.heap.now a.depth a.object n.result w l.field lead.result lead.new.text))
          (field_arrives u.first u.free u.heap.now a.depth a.object n.result w l.field l.place l.text
          (rest_arrives u.first u.free u.heap.now a.depth a.object n.result n.ensures.is a.at a.text.now w
          c.if-count-eq0.false l.field l.place l.text l.invariant.same c.requires.room)
          (more_fields u.heap.now a.object n.result w l.field c.loop-field-test.true) lead.result lead.new.text lead.ensures),
    )

pub spell_tuple-loop-field-preserved : goal.spell_tuple-loop-field-preserved
spell_tuple-loop-field-preserved t c =
    let a = c.args in
    let u = a.used.now in
    let n = c.count_of-count in
    let l = c.loop-field in
    let lead = c.spell_lead-from in
    let gone = c.spell-place in
    let w = within u.heap.now u.free a.object n.result u.within c.requires.inside n.ensures.is in
    record {
      sized = gone.auto.text ∙ (lead.auto.text ∙ l.invariant.sized);
      same =
          field-goes u.first u.free u.heap.now a.depth a.object n.result w l.field l.place l.text
          (rest_arrives u.first u.free u.heap.now a.depth a.object n.result n.ensures.is a.at a.text.now w
          c.if-count-eq0.false l.field l.place l.text l.invariant.same c.requires.room)
          (more_fields u.heap.now a.object n.result w l.field c.loop-field-test.true) lead.result lead.new.text lead.ensures
          gone.result gone.new.text
          (gone.ensures ∙ field-taken u.first u.free u.heap.now a.depth a.object n.result w l.field lead.result lead.new.text)
          ∙ l.invariant.same;
    }

-- there is room for the closer
pub spell_tuple-bounds-text-place : goal.spell_tuple-bounds-text-place
spell_tuple-bounds-text-place t c =
    let a = c.args in
    let u = a.used.now in
    let n = c.count_of-count in
    let l = c.loop-field in
    let w = within u.heap.now u.free a.object n.result u.within c.requires.inside n.ensures.is in
    end-room u.first u.free u.heap.now a.depth a.object n.result w l.field l.place l.text
    (rest_arrives u.first u.free u.heap.now a.depth a.object n.result n.ensures.is a.at a.text.now w c.if-count-eq0.false
    l.field l.place l.text l.invariant.same c.requires.room)
    (no_more_fields u.heap.now a.object n.result w l.field c.loop-field-test.false)

pub spell_tuple-overflow_add-result : goal.spell_tuple-overflow_add-result
spell_tuple-overflow_add-result t c = omega (arith, spell_tuple-bounds-text-place t c)

pub spell_tuple-returns : goal.spell_tuple-returns
spell_tuple-returns t c =
    let a = c.args in
    let u = a.used.now in
    let n = c.count_of-count in
    let l = c.loop-field in
    let w = within u.heap.now u.free a.object n.result u.within c.requires.inside n.ensures.is in
    end_goes u.first u.free u.heap.now a.depth a.object n.result w l.field l.place l.text
    (rest_arrives u.first u.free u.heap.now a.depth a.object n.result n.ensures.is a.at a.text.now w c.if-count-eq0.false
    l.field l.place l.text l.invariant.same c.requires.room)
    (no_more_fields u.heap.now a.object n.result w l.field c.loop-field-test.false) c.closer_of.result c.closer_of.ensures
    ∙ rest-goes u.first u.free u.heap.now a.depth a.object n.result n.ensures.is a.at a.text.now w c.if-count-eq0.false
    l.field l.place l.text l.invariant.same
