-- `objects::raw_read` meets its contract: the call is what `reach` answers, read as a call's outcome.
use native.Mathlib.Omega.{arith}
use Rattle.std.proofs.Common.{rules, ◌∙◌}
use Rattle.std.proofs.lemmas.Result.{err_from_is_err_and}
use Rattle.model.specs.declared.Kind.TheVariants.{Untraced}
use Rattle.model.specs.Headers.{tuple}
use Rattle.objects.proofs.ReachedFields.{within, by_field, by_refusal, raw-read-reached, same_number}
use Rattle.objects.proofs.raw_read.Goals as goal

pub offset_bounds-heap-found : goal.offset_bounds-heap-found
offset_bounds-heap-found c = let r = within tuple Untraced _ c.args.field _ _ c.reach.ensures (omega arith) c.in_ok-found.was in search rules

pub bounds-heap-found : goal.bounds-heap-found
bounds-heap-found c = let r = within tuple Untraced _ c.args.field _ _ c.reach.ensures (omega arith) c.in_ok-found.was in omega arith

pub returns-in_err-found : goal.returns-in_err-found
returns-in_err-found c =
    let p = err_from_is_err_and c.from_residual.result c.from_residual.ensures.1 in
    rw (p.1, p.2) (by_refusal tuple Untraced _ c.args.field _ _ c.reach.ensures (omega arith) _ (raw-read-reached _ _ _ _) c.in_err-found.was)

pub returns : goal.returns
returns c =
    same_number _ (omega arith)
    ∙ by_field tuple Untraced _ c.args.field _ _ c.reach.ensures (omega arith) _ (raw-read-reached _ _ _ _) c.in_ok-found.was
