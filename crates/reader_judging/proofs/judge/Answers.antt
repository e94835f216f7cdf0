-- `reader_judging::judge` meets its contract.
use Prim.Native.Nat.{ℕ}
use native.Mathlib.Omega.{arith}
use mathlib.Core.Path.{sym, ap, ◌∙◌}
use lib.Dec.{eqb}
use lib.IntN.{ℤ}
use mir.Syntax.{w32}
use mir.Val.{to_z, of_z}
use mir.ValLaws.{to_z-of_z}
use Rattle.model.specs.ReadFaults as Faults
use Rattle.model.specs.Reading.{signed}
use Rattle.reader_numerals.specs.Numerals.{negative}
use Rattle.reader_judging.proofs.Verdicts.{signed-fits, empty, integer-behind, an_integer, a_tuple, more-behind}
use Rattle.reader_judging.proofs.judge.Goals as goal

pub returns-in_default : goal.returns-in_default
returns-in_default c = empty _ (omega (arith, c.in_default.ensures.item.3))

pub returns-in-Some-integer : goal.returns-in-Some-integer
returns-in-Some-integer c =
    let y = c.in-Some-integer.ensures in
    let n = c.in-Some-integer.read.number in
    an_integer _ _ _ y (omega arith) _
    (ap (λ (z : ℤ). to_z w32 (of_z w32 z))
    (c.signed_of.ensures ∙ ap (λ (b : ℕ). signed (eqb b 126) n) (c.in-Some.ensures.item.3.1 0))
    ∙ to_z-of_z w32 _ (signed-fits (negative c.args.text.now 0) n y.small))

pub returns-in_default-integer : goal.returns-in_default-integer
returns-in_default-integer c = integer-behind _ _ _ c.in-Some-integer.ensures (λ e. omega arith)

pub returns-in-Some-outermost : goal.returns-in-Some-outermost
returns-in-Some-outermost c =
    a_tuple _ _ _ c.in-Some-outermost.ensures
    (ap Faults.opens (sym (c.in-Some.ensures.item.3.1 0)) ∙ sym c.is_opener.ensures ∙ c.if-not-is_opener.false)
    (omega (arith, c.in-Some-outermost.ensures.within))

pub returns-in-Some-2 : goal.returns-in-Some-2
returns-in-Some-2 c = more-behind _ _ _ c.in-Some-outermost.ensures (λ e. omega arith)
