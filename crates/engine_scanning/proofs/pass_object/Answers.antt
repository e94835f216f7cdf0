-- `engine_scanning::pass_object` meets its contract: the header is one word of the run, and its fields or
-- raw words are the others.
use native.Mathlib.Omega.{arith}
use mathlib.Core.Path.{sym, ◌∙◌}
use Rattle.engine_scanning.proofs.ObjectLaws.{object-within, fields_may, traced-is, untraced-is}
use Rattle.engine_scanning.proofs.pass_object.Goals as goal

pub offset_bounds-heap-at : goal.offset_bounds-heap-at
offset_bounds-heap-at c = omega (arith, object-within _ _ _ _ _ c.requires)

pub bounds-heap-at : goal.bounds-heap-at
bounds-heap-at c = object-within _ _ _ _ _ c.requires

pub overflow_add-next : goal.overflow_add-next
overflow_add-next c =
    omega (
      arith,
      object-within _ _ _ _ _ c.requires,
      c.count_of-n.ensures.is,
      c.size_of.ensures,
    )

pub pass_fields-swept-requires : goal.pass_fields-swept-requires
pass_fields-swept-requires c =
    fields_may _ _ _ _ _ c.requires _ c.count_of-n.ensures.is
    (sym c.is_traced.ensures ∙ c.if-is_traced.true)

pub returns-then-is_traced : goal.returns-then-is_traced
returns-then-is_traced c =
    traced-is _ _ _ _ _ c.requires _ c.count_of-n.ensures.is
    (sym c.is_traced.ensures ∙ c.if-is_traced.true) _ _ _ _ c.pass_fields-swept.ensures
    (omega (arith, c.size_of.ensures, c.count_of-n.ensures.is))

pub returns : goal.returns
returns c =
    untraced-is _ _ _ _ _ c.requires (sym c.is_traced.ensures ∙ c.if-is_traced.false)
    _ (omega (arith, c.size_of.ensures, c.count_of-n.ensures.is))
