-- `reader_judging::values::are_closed` meets its contract.
use Prim.Native.Nat.{◌+◌}
use native.Mathlib.Omega.{arith}
use Rattle.reader_numerals.proofs.Steps.{there, not_there}
use Rattle.reader_judging.proofs.Chains.{none_closed, no_closer, one_closed, all_closed}
use Rattle.reader_judging.proofs.values.are_closed.Goals as goal

pub loop-closed-init : goal.loop-closed-init
loop-closed-init c = none_closed _ _ _ c.requires

pub returns-then-not-is_at : goal.returns-then-not-is_at
returns-then-not-is_at c = no_closer _ _ _ _ c.loop-closed.invariant c.loop-closed-test.true
    (not_there c.args.text.now (c.args.at + c.loop-closed.closed) 125 _ c.is_at.ensures c.if-not-is_at.true)

pub loop-closed-preserved : goal.loop-closed-preserved
loop-closed-preserved c =
    let h = there c.args.text.now (c.args.at + c.loop-closed.closed) 125 _ c.is_at.ensures c.if-not-is_at.false in
    one_closed _ _ _ _ c.loop-closed.invariant c.loop-closed-test.true h.0 h.1

pub returns : goal.returns
returns c = all_closed _ _ _ _ c.loop-closed.invariant (omega arith)
