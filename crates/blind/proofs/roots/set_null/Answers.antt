-- `blind::set_null` meets its contract: refused as `admit` says of the root that the call names, or what is its own.
use Rattle.std.proofs.Common.{refl, arith, [], ◌∷◌}
use Rattle.model.specs.Words.{state_of}
use Rattle.model.specs.Calls.{set_null}
use Rattle.words.proofs.Admitted.{passed_on, not_admitted, admitted_own}
use Rattle.blind.proofs.Asked.{asked}
use Rattle.blind.proofs.roots.set_null.Goals as goal

pub returns-in_err-admit : goal.returns-in_err-admit
unfolding set_null
returns-in_err-admit c =
    let s = state_of c.args.heap.now c.args.roots.now c.args.«record» in
    rw (passed_on _ c.from_residual.ensures.1)
    (not_admitted (c.args.to ∷ []) s (asked c.args.to s c.admit.ensures.is (omega arith)) _ c.in_err-admit.was)

pub returns : goal.returns
unfolding set_null
returns c =
    let s = state_of c.args.heap.now c.args.roots.now c.args.«record» in
    admitted_own (c.args.to ∷ []) s (asked c.args.to s c.admit.ensures.is (omega arith)) c.in_ok-admit.was refl
