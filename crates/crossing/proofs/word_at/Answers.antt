-- `crossing::word_at` meets its contract, test by test.
use Prim.Native.Nat.{◌+◌}
use native.Mathlib.Omega.{arith}
use lib.ListN.{length}
use borrow.Author.Tests.{le-leb, lt-leb}
use Rattle.crossing.specs.Numbers.{word_at}
use Rattle.crossing.proofs.word_at.Goals as goal

pub returns-then-count-field : goal.returns-then-count-field
unfolding word_at
returns-then-count-field c =
    let a = c.args in
    rw (le-leb a.window.count a.field (omega (arith, c.if-count-field.true))) c.answer_of.ensures

pub returns-then-heap-at : goal.returns-then-heap-at
unfolding word_at
returns-then-heap-at c =
    let a = c.args in
    rw (
      lt-leb a.window.count a.field (omega (arith, c.if-count-field.false)),
      le-leb (length a.heap.now) (a.window.first + a.field) (omega (arith, c.if-heap-at.true)),
    )
    c.answer_of-then-heap-at.ensures

pub returns : goal.returns
unfolding word_at
returns c =
    let a = c.args in
    rw (
      lt-leb a.window.count a.field (omega (arith, c.if-count-field.false)),
      lt-leb (length a.heap.now) (a.window.first + a.field) (omega (arith, c.if-heap-at.false)),
    )
    c.answer_of-2.ensures
