-- `views::contents::shown` meets its contract: an arm for each sort.
use mathlib.Core.Path.{sym, ap, ◌∙◌}
use Rattle.std.specs.Prelude.{Ok}
use lib.IntN.{ℤ}
use Rattle.model.specs.declared.Answer.{Answer}
use Rattle.model.specs.declared.Answer.TheVariants as Says
use Rattle.model.specs.Words.{state_of}
use Rattle.model.specs.Headers.{tuple}
use Rattle.views.proofs.Inspecting.{answer_by_sort, integer_in_roots, code_in_roots, object_in_roots, object_in_heap, object-answer}
use borrow.Author.Rules.{rules}
use Rattle.views.proofs.contents.shown.Goals as goal

pub offset_bounds-roots-root : goal.offset_bounds-roots-root
offset_bounds-roots-root g c = let l = integer_in_roots _ _ _ (sym (c.in-Ok-Integer.is ∙ ap Ok c.in-Ok-Integer.field-0-is) ∙ c.sort_of.ensures) in search rules

pub bounds-roots-root : goal.bounds-roots-root
bounds-roots-root g c = integer_in_roots _ _ _ (sym (c.in-Ok-Integer.is ∙ ap Ok c.in-Ok-Integer.field-0-is) ∙ c.sort_of.ensures)

pub offset_bounds-roots-root-in-Ok-Code : goal.offset_bounds-roots-root-in-Ok-Code
offset_bounds-roots-root-in-Ok-Code g c = let l = code_in_roots _ _ _ (sym (c.in-Ok-Code.is ∙ ap Ok c.in-Ok-Code.field-0-is) ∙ c.sort_of.ensures) in search rules

pub bounds-roots-root-in-Ok-Code : goal.bounds-roots-root-in-Ok-Code
bounds-roots-root-in-Ok-Code g c = code_in_roots _ _ _ (sym (c.in-Ok-Code.is ∙ ap Ok c.in-Ok-Code.field-0-is) ∙ c.sort_of.ensures)

pub offset_bounds-roots-root-in-Ok-Object : goal.offset_bounds-roots-root-in-Ok-Object
offset_bounds-roots-root-in-Ok-Object g c = let l = object_in_roots _ _ _ (sym (c.in-Ok-Object.is ∙ ap Ok c.in-Ok-Object.field-0-is) ∙ c.sort_of.ensures) in search rules

pub bounds-roots-root-in-Ok-Object : goal.bounds-roots-root-in-Ok-Object
bounds-roots-root-in-Ok-Object g c = object_in_roots _ _ _ (sym (c.in-Ok-Object.is ∙ ap Ok c.in-Ok-Object.field-0-is) ∙ c.sort_of.ensures)

pub header_of-header-requires : goal.header_of-header-requires
header_of-header-requires g c = object_in_heap _ _ _ (sym (c.in-Ok-Object.is ∙ ap Ok c.in-Ok-Object.field-0-is) ∙ c.sort_of.ensures)

pub returns-in-Ok-Null : goal.returns-in-Ok-Null
returns-in-Ok-Null g c =
    c.null.ensures
    ∙ ap g.S.Shown.of (answer_by_sort _ _ _ (sym (c.in-Ok-Null.is ∙ ap Ok c.in-Ok-Null.field-0-is) ∙ c.sort_of.ensures))

pub returns-in-Ok-Integer : goal.returns-in-Ok-Integer
returns-in-Ok-Integer g c =
    c.integer.ensures ∙ ap (λ (v : ℤ). g.S.Shown.of (Ok (Says.Integer v))) (search rules)
    ∙ ap g.S.Shown.of (answer_by_sort _ _ _ (sym (c.in-Ok-Integer.is ∙ ap Ok c.in-Ok-Integer.field-0-is) ∙ c.sort_of.ensures))

pub returns-in-Ok-Code : goal.returns-in-Ok-Code
returns-in-Ok-Code g c = c.code.ensures ∙ ap g.S.Shown.of (answer_by_sort _ _ _ (sym (c.in-Ok-Code.is ∙ ap Ok c.in-Ok-Code.field-0-is) ∙ c.sort_of.ensures))

pub returns-in-Ok-Object : goal.returns-in-Ok-Object
returns-in-Ok-Object g c =
    c.object.ensures
    ∙ ap (λ (a : Answer). g.S.Shown.of (Ok a))
    (object-answer tuple c.args.root (state_of c.args.heap.now c.args.roots.now c.args.«record») _ c.header_of-header.ensures c.kind_of.ensures
    c.count_of-fields.ensures.is)
    ∙ ap g.S.Shown.of (answer_by_sort _ _ _ (sym (c.in-Ok-Object.is ∙ ap Ok c.in-Ok-Object.field-0-is) ∙ c.sort_of.ensures))

pub returns-in-Err : goal.returns-in-Err
returns-in-Err g c =
    c.refused.ensures
    ∙ ap g.S.Shown.of (answer_by_sort _ _ _ (sym c.in-Err.is ∙ c.sort_of.ensures))
