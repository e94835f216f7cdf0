-- `checker::all_are_values` meets its contract: a law for each return.
use mathlib.Core.Path.{◌≡◌}
use mathlib.Core.Bool.{true, false}
use native.Mathlib.Omega.{arith}
use Rattle.model.specs.Headers.{tuple}
use Rattle.checker_marks.specs.Verdicts.{holds}
use Rattle.checker.proofs.Returns.{marks-lent, values-bad, values_good}
use Rattle.checker.proofs.all_are_values.Goals as goal

pub returns-then-not-holds : goal.returns-then-not-holds
returns-then-not-holds c =
    let a = c.args in
    let lent = marks-lent a.heap.now a.part in
    let no : holds c.judge_words.result ≡ false = grind arith in
    values-bad tuple a.heap.now a.roots.now a.part _ (rw lent at c.judge_words.ensures) no

pub returns : goal.returns
returns c =
    let a = c.args in
    let lent = marks-lent a.heap.now a.part in
    let yes : holds c.judge_words.result ≡ true = grind arith in
    values_good tuple a.heap.now a.roots.now a.part _ (rw lent at c.judge_words.ensures)
    yes _ (rw lent at c.are_all_fields_values.ensures)
