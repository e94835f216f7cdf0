-- `checker::mark_and_test` meets its contract: a law for each return.
use Rattle.model.specs.Headers.{tuple}
use Rattle.checker.proofs.Returns.{left-heap, marked-whole, stopped-short, stopped-free}
use Rattle.checker.proofs.mark_and_test.Goals as goal

pub returns-then-mark_headers-free : goal.returns-then-mark_headers-free
returns-then-mark_headers-free c =
    let a = c.args in
    let e = c.mark_headers.ensures in
    (stopped-short tuple _ _ _ _ e _ c.if-mark_headers-free.true, left-heap tuple a.heap.now a.part _ _ e)

pub all_are_values-requires : goal.all_are_values-requires
all_are_values-requires c =
    let a = c.args in
    marked-whole tuple a.heap.now a.part _ _ c.mark_headers.ensures c.requires c.if-mark_headers-free.false

pub returns : goal.returns
returns c =
    let a = c.args in
    let e = c.mark_headers.ensures in (
      stopped-free tuple a.heap.now a.part _ _ e _ c.if-mark_headers-free.false _ c.all_are_values.ensures,
      left-heap tuple a.heap.now a.part _ _ e,
    )
