-- `blind::set_integer` meets its contract: refused as `admit` says, or by what `tag` answers.
use Rattle.std.proofs.Common.{sym, ap, ◌∙◌, not}
use Rattle.std.specs.Option.{ok_or}
use mir.ValLaws.{to_z-of_z}
use Rattle.model.specs.declared.Refusal.TheVariants as Why
use Rattle.model.specs.Calls.{set_integer}
use Rattle.theory.proofs.Refusing.{applies, passes}
use Rattle.integers.specs.Tagging.{tagged}
use Rattle.integers.proofs.TaggedIntegers.{tagged_in, tagged_out}
use Rattle.words.proofs.Admitted.{passed_on, not_admitted, admitted_own}
use Rattle.blind.proofs.integer.set_integer.Goals as goal

pub returns-in_err-admit : goal.returns-in_err-admit
unfolding set_integer
returns-in_err-admit c = rw (passed_on _ c.from_residual.ensures.1) (not_admitted _ _ c.admit.ensures.is _ c.in_err-admit.was)

pub returns-in_err-roots : goal.returns-in_err-roots
unfolding set_integer
returns-in_err-roots c =
    let t = tagged_out _ _ (ap (λ x. ok_or x Why.Range) (sym (c.tag.ensures ∙ ap tagged (to_z-of_z _ _ c.ranges.value)))
    ∙ sym c.ok_or.ensures.value ∙ c.in_err-roots.was) in
    rw (passed_on _ c.from_residual-in_err-roots.ensures.1, sym t.1)
    (admitted_own _ _ c.admit.ensures.is c.in_ok-admit.was (applies _ (ap not t.0)))

pub returns : goal.returns
unfolding set_integer
returns c =
    let t = tagged_in _ _ (ap (λ x. ok_or x Why.Range) (sym (c.tag.ensures ∙ ap tagged (to_z-of_z _ _ c.ranges.value)))
    ∙ sym c.ok_or.ensures.value ∙ c.in_ok-roots.was) in
    admitted_own _ _ c.admit.ensures.is c.in_ok-admit.was (passes _ _ (ap not t.0) (rw t.1))
