-- `reader_placing::numerals::integer` meets its contract, sign by sign.
use Prim.Native.Nat.{◌+◌}
use native.Mathlib.Omega.{arith}
use Rattle.reader_placing.specs.Numerals.{DigitsRead}
use Rattle.reader_placing.proofs.Signs.{integer_inside, negative, negative-read}
use Rattle.reader_placing.proofs.numerals.integer.Goals as goal

pub bounds-text-at : goal.bounds-text-at
bounds-text-at c = let v = c.requires.1.0 in let i = c.requires.1.1 in integer_inside _ _ v i

pub magnitude-below-requires : goal.magnitude-below-requires
magnitude-below-requires c =
    let v = c.requires.1.0 in
    let i = c.requires.1.1 in
    let b = negative _ _ v i c.if-text-at-eq-MINUS.true in
    (b.below + 1, b.digits_at)

pub overflow_sub-heap : goal.overflow_sub-heap
overflow_sub-heap c =
    let v = c.requires.1.0 in
    let i = c.requires.1.1 in
    let b = negative _ _ v i c.if-text-at-eq-MINUS.true in
    let d : DigitsRead (c.args.at + 1) (b.below + 1) c.magnitude-below.result.number c.magnitude-below.result.end =
    c.magnitude-below.ensures (b.below + 1) b.digits_at in
    omega (arith, d.is, b.digits_at.small)

pub overflow_mul-heap : goal.overflow_mul-heap
overflow_mul-heap c =
    let v = c.requires.1.0 in
    let i = c.requires.1.1 in
    let b = negative _ _ v i c.if-text-at-eq-MINUS.true in
    let d : DigitsRead (c.args.at + 1) (b.below + 1) c.magnitude-below.result.number c.magnitude-below.result.end =
    c.magnitude-below.ensures (b.below + 1) b.digits_at in
    omega (arith, d.is, b.digits_at.small)

pub overflow_sub-heap-then-text-at-eq-MINUS : goal.overflow_sub-heap-then-text-at-eq-MINUS
overflow_sub-heap-then-text-at-eq-MINUS c =
    let v = c.requires.1.0 in
    let i = c.requires.1.1 in
    let b = negative _ _ v i c.if-text-at-eq-MINUS.true in
    let d : DigitsRead (c.args.at + 1) (b.below + 1) c.magnitude-below.result.number c.magnitude-below.result.end =
    c.magnitude-below.ensures (b.below + 1) b.digits_at in
    omega (arith, d.is, b.digits_at.small)

pub returns-then-text-at-eq-MINUS : goal.returns-then-text-at-eq-MINUS
returns-then-text-at-eq-MINUS c = λ v i.
    let b = negative _ _ v i c.if-text-at-eq-MINUS.true in
    negative-read _ _ _ _ _ _ v b (c.magnitude-below.ensures (b.below + 1) b.digits_at)
