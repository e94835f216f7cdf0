-- `checker::is_zero_around` meets its contract: a case law for each return.
use native.Mathlib.Omega.{arith}
use Rattle.checker.proofs.Returns.{around_first, around_dirty, around_rest}
use Rattle.checker.proofs.is_zero_around.Goals as goal

pub returns-then-heap-ne0 : goal.returns-then-heap-ne0
returns-then-heap-ne0 c = around_first c.args.heap.now _ _ (λ z. omega arith)

pub returns-then-not-all_zero : goal.returns-then-not-all_zero
returns-then-not-all_zero c =
    let a = c.args in
    around_dirty a.heap.now a.part a.half_words (omega arith) _ _ (omega arith)
    _ c.all_zero.ensures (omega arith) (omega arith) c.if-not-all_zero.true

pub returns : goal.returns
returns c =
    let a = c.args in
    around_rest a.heap.now a.part a.half_words (omega arith) _ _ (omega arith)
    _ c.all_zero.ensures (omega arith) (omega arith) c.if-not-all_zero.false
    _ _ (omega arith) _ c.all_zero-2.ensures (omega arith) (omega arith)
