-- `blind::set_code` meets its contract: refused as `admit` says of the root that the call names, or by the word.
use Rattle.std.proofs.Common.{refl, sym, ap, ◌∙◌, not, arith, [], ◌∷◌}
use Rattle.model.specs.Words.{state_of}
use Rattle.model.specs.Calls.{set_code}
use Rattle.theory.proofs.Refusing.{applies, passes}
use Rattle.words.proofs.Admitted.{passed_on, not_admitted, admitted_own}
use Rattle.blind.proofs.Asked.{asked}
use Rattle.blind.proofs.code.set_code.Goals as goal

pub returns-in_err-admit : goal.returns-in_err-admit
unfolding set_code
returns-in_err-admit c =
    let s = state_of c.args.heap.now c.args.roots.now c.args.«record» in
    rw (passed_on _ c.from_residual.ensures.1)
    (not_admitted (c.args.to ∷ []) s (asked c.args.to s c.admit.ensures.is (omega arith)) _ c.in_err-admit.was)

pub returns-then-not-is_code : goal.returns-then-not-is_code
unfolding set_code
returns-then-not-is_code c =
    let s = state_of c.args.heap.now c.args.roots.now c.args.«record» in
    admitted_own (c.args.to ∷ []) s (asked c.args.to s c.admit.ensures.is (omega arith)) c.in_ok-admit.was
    (applies _ (ap not (sym c.is_code.ensures ∙ c.if-not-is_code.true)))

pub returns : goal.returns
unfolding set_code
returns c =
    let s = state_of c.args.heap.now c.args.roots.now c.args.«record» in
    admitted_own (c.args.to ∷ []) s (asked c.args.to s c.admit.ensures.is (omega arith)) c.in_ok-admit.was
    (passes _ _ (ap not (sym c.is_code.ensures ∙ c.if-not-is_code.false)) refl)
