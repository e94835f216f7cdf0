-- `reader_placing::numerals::magnitude` meets its contract. The loop's invariant: the digits that are left, onto the number so far,
-- make the number whose digits stand at the first place.
use native.Mathlib.Omega.{arith}
use mathlib.Core.Path.{sym, ◌∙◌}
use Rattle.reader_numerals.proofs.Steps.{ascii_digit}
use Rattle.reader_placing.proofs.Digits.{begins, inside, turn, stop}
use Rattle.reader_placing.proofs.numerals.magnitude.Goals as goal

pub bounds-text-place : goal.bounds-text-place
bounds-text-place c = let n = c.requires.0 in let d = c.requires.1 in inside _ _ n 0 _ _ (begins _ _ n d)

pub loop-number-init : goal.loop-number-init
loop-number-init c = λ n d. begins _ _ n d

pub overflow_mul-number : goal.overflow_mul-number
overflow_mul-number c =
    let n = c.requires.0 in
    let d = c.requires.1 in
    let a = turn _ _ n c.loop-number.number c.loop-number.place c.loop-number.byte (c.loop-number.invariant n d)
    (sym (ascii_digit c.loop-number.byte) ∙ sym c.is_ascii_digit.ensures.value ∙ c.loop-number-test.true) in
    omega (arith, a.fits, (c.loop-number.invariant n d).small)

pub overflow_add-number : goal.overflow_add-number
overflow_add-number c =
    let n = c.requires.0 in
    let d = c.requires.1 in
    let a = turn _ _ n c.loop-number.number c.loop-number.place c.loop-number.byte (c.loop-number.invariant n d)
    (sym (ascii_digit c.loop-number.byte) ∙ sym c.is_ascii_digit.ensures.value ∙ c.loop-number-test.true) in
    omega (arith, a.fits, (c.loop-number.invariant n d).small)

pub loop-number-preserved : goal.loop-number-preserved
loop-number-preserved c = λ n d.
    (turn _ _ n c.loop-number.number c.loop-number.place c.loop-number.byte (c.loop-number.invariant n d)
    (sym (ascii_digit c.loop-number.byte) ∙ sym c.is_ascii_digit.ensures.value ∙ c.loop-number-test.true)).again

pub returns : goal.returns
returns c = λ n d.
    let l = c.loop-number in stop _ _ n l.number l.place l.byte (l.invariant n d) (sym (ascii_digit c.loop-number.byte) ∙ sym c.is_ascii_digit.ensures.value ∙ c.loop-number-test.false)
