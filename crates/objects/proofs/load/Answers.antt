-- `objects::load` meets its contract: the call is what `reach` answers, read as a call's outcome.
use native.Mathlib.Omega.{arith}
use Rattle.std.proofs.Common.{rules, refl, ◌∙◌}
use Rattle.std.proofs.lemmas.Result.{err_from_is_err_and}
use Rattle.model.specs.declared.Kind.TheVariants.{Traced}
use Rattle.model.specs.Words.{state_of}
use Rattle.model.specs.Headers.{tuple}
use Rattle.objects.proofs.ReachedFields.{within, by_field, by_refusal, load-reached, same_target}
use Rattle.objects.proofs.load.Goals as goal

pub offset_bounds-heap-found : goal.offset_bounds-heap-found
offset_bounds-heap-found c = let r = within tuple Traced _ _ _ _ c.reach.ensures refl c.in_ok-found.was in search rules

pub bounds-heap-found : goal.bounds-heap-found
bounds-heap-found c = let r = within tuple Traced _ _ _ _ c.reach.ensures refl c.in_ok-found.was in omega arith

pub offset_bounds-roots-to : goal.offset_bounds-roots-to
offset_bounds-roots-to c = let r = within tuple Traced _ _ _ _ c.reach.ensures refl c.in_ok-found.was in search rules

pub bounds-roots-to : goal.bounds-roots-to
bounds-roots-to c = let r = within tuple Traced _ _ _ _ c.reach.ensures refl c.in_ok-found.was in omega arith

pub returns-in_err-found : goal.returns-in_err-found
returns-in_err-found c =
    let p = err_from_is_err_and c.from_residual.result c.from_residual.ensures.1 in
    rw (p.1, p.2) (by_refusal tuple Traced _ _ _ _ c.reach.ensures refl _ (load-reached _ _ _ _ _) c.in_err-found.was)

pub returns : goal.returns
returns c =
    same_target {q = c.args.to} (state_of c.args.heap.now c.args.roots.now c.args.«record») _ (omega arith)
    ∙ by_field tuple Traced _ _ _ _ c.reach.ensures refl _ (load-reached _ _ _ _ _) c.in_ok-found.was
