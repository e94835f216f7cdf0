-- `phachunoi::heap::allocate` meets its contract: its numbers cross to the call and back, either way.
use native.Mathlib.Omega.{arith}
use mathlib.Core.Path.{◌∙◌, sym}
use Rattle.phachunoi.proofs.Allocating.{at-once_crosses, at-once_narrow}
use Rattle.phachunoi.proofs.heap.allocate.Goals as goal

pub done_with-requires : goal.done_with-requires
done_with-requires c =
    at-once_narrow c.args.kind c.args.«record» _ _ _ _
    c.record_of-taken.ensures (sym c.fits.ensures ∙ c.if-fits.true) c.allocate.ensures (omega (arith, c.well_formed))

pub returns-then-fits : goal.returns-then-fits
returns-then-fits c =
    let a = c.args in
    at-once_crosses a.kind a.«record» _ _ _ _
    c.record_of-taken.ensures (sym c.fits.ensures ∙ c.if-fits.true) c.allocate.ensures c.done_with.ensures
