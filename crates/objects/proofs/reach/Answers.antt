-- `objects::reach` meets its contract: SHAPE and ROOT by `admit_both`, the rest by `field_of`.
use Rattle.model.specs.Words.{state_of}
use Rattle.model.specs.Headers.{tuple}
use Rattle.naming.proofs.NamedObjects.{free_in_heap}
use Rattle.words.proofs.Admitted.{passed_on, admitted_tests}
use Rattle.objects.proofs.ReachedFields.{unreached, reached_by}
use Rattle.objects.proofs.reach.Goals as goal

pub returns-in_err-admit_both : goal.returns-in_err-admit_both
returns-in_err-admit_both c =
    rw (passed_on _ c.from_residual.ensures.1) (unreached tuple _ _ _ _ _ c.admit_both.ensures.is (c.in_err-admit_both.was))

pub field_of-requires : goal.field_of-requires
field_of-requires c =
    let t = admitted_tests _ _ c.admit_both.ensures.is c.in_ok-admit_both.was in
    free_in_heap (state_of c.args.heap.now c.args.roots.now c.args.«record») t.0

pub returns : goal.returns
returns c = reached_by tuple _ _ _ _ _ c.admit_both.ensures.is c.in_ok-admit_both.was (c.field_of.ensures c.args.roots.now)
