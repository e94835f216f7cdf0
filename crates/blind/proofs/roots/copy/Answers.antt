-- `blind::copy` meets its contract: refused as `admit_both` says, or what is its own.
use Rattle.std.proofs.Common.{refl}
use Rattle.model.specs.Calls.{copy}
use Rattle.words.proofs.Admitted.{passed_on, not_admitted, admitted_own}
use Rattle.blind.proofs.roots.copy.Goals as goal

pub returns-in_err-admit_both : goal.returns-in_err-admit_both
unfolding copy
returns-in_err-admit_both c =
    rw (passed_on _ c.from_residual.ensures.1) (not_admitted _ _ c.admit_both.ensures.is _ c.in_err-admit_both.was)

pub returns : goal.returns
unfolding copy
returns c = admitted_own _ _ c.admit_both.ensures.is c.in_ok-admit_both.was refl
