-- `objects::raw_write` meets its contract: the call is what `reach` answers, read as a call's outcome.
use native.Mathlib.Omega.{arith}
use Rattle.std.proofs.Common.{rules, ◌∙◌}
use Rattle.std.proofs.lemmas.Result.{err_from_is_err_and}
use Rattle.model.specs.declared.Kind.TheVariants.{Untraced}
use Rattle.model.specs.Headers.{tuple}
use Rattle.model.specs.Words.{state_of}
use Rattle.objects.proofs.ReachedFields.{within, by_field, by_refusal, raw-write-reached, same_word}
use Rattle.objects.proofs.raw_write.Goals as goal

pub offset_bounds-heap-target : goal.offset_bounds-heap-target
offset_bounds-heap-target c = let r = within tuple Untraced _ c.args.field _ _ c.reach.ensures (omega arith) c.in_ok-target.was in search rules

pub bounds-heap-target : goal.bounds-heap-target
bounds-heap-target c = let r = within tuple Untraced _ c.args.field _ _ c.reach.ensures (omega arith) c.in_ok-target.was in omega arith

pub returns-in_err-target : goal.returns-in_err-target
returns-in_err-target c =
    let p = err_from_is_err_and c.from_residual.result c.from_residual.ensures.1 in
    rw (p.1, p.2) (by_refusal tuple Untraced _ c.args.field _ _ c.reach.ensures (omega arith) _ (raw-write-reached _ _ _ _ _) c.in_err-target.was)

pub returns : goal.returns
returns c =
    same_word {y = c.args.number} (state_of c.args.heap.now c.args.roots.now c.args.«record») _ (omega arith)
    ∙ by_field tuple Untraced _ c.args.field _ _ c.reach.ensures (omega arith) _ (raw-write-reached _ _ _ _ _) c.in_ok-target.was
