-- `objects::store` meets its contract: the call is what `reach` answers, read as a call's outcome.
use native.Mathlib.Omega.{arith}
use Rattle.std.proofs.Common.{rules, refl, ◌∙◌}
use Rattle.std.proofs.lemmas.Result.{err_from_is_err_and}
use Rattle.model.specs.declared.Kind.TheVariants.{Traced}
use Rattle.model.specs.Words.{state_of}
use Rattle.model.specs.Headers.{tuple}
use Rattle.objects.proofs.ReachedFields.{within, by_field, by_refusal, store-reached, same_source}
use Rattle.objects.proofs.store.Goals as goal

pub offset_bounds-roots-from : goal.offset_bounds-roots-from
offset_bounds-roots-from c = let r = within tuple Traced _ _ _ _ c.reach.ensures refl c.in_ok-target.was in search rules

pub bounds-roots-from : goal.bounds-roots-from
bounds-roots-from c = let r = within tuple Traced _ _ _ _ c.reach.ensures refl c.in_ok-target.was in omega arith

pub offset_bounds-heap-target : goal.offset_bounds-heap-target
offset_bounds-heap-target c = let r = within tuple Traced _ _ _ _ c.reach.ensures refl c.in_ok-target.was in search rules

pub bounds-heap-target : goal.bounds-heap-target
bounds-heap-target c = let r = within tuple Traced _ _ _ _ c.reach.ensures refl c.in_ok-target.was in omega arith

pub returns-in_err-target : goal.returns-in_err-target
returns-in_err-target c =
    let p = err_from_is_err_and c.from_residual.result c.from_residual.ensures.1 in
    rw (p.1, p.2) (by_refusal tuple Traced _ _ _ _ c.reach.ensures refl _ (store-reached _ _ _ _ _) c.in_err-target.was)

pub returns : goal.returns
returns c =
    same_source {q = c.args.from} (state_of c.args.heap.now c.args.roots.now c.args.«record») _ (omega arith)
    ∙ by_field tuple Traced _ _ _ _ c.reach.ensures refl _ (store-reached _ _ _ _ _) c.in_ok-target.was
