-- `runs::all_zero` meets its contract. Invariant: the words left are all 0 exactly where all are.
use Rattle.std.proofs.Common.{rules, sym, ◌∙◌}
use borrow.Author.Tests.{eq-eqb, ne_eqb}
use Rattle.model.specs.Values.{is_null}
use Rattle.runs.proofs.RunLaws.{all_rest}
use Rattle.runs.proofs.all_zero.Goals as goal

pub returns-then-bits-ne0 : goal.returns-then-bits-ne0
returns-then-bits-ne0 c =
    let first = sym c.bits.ensures ∙ ne_eqb _ _ c.if-bits-ne0.true in
    let parts = all_rest is_null c.loop-first.left.now 64 in
    let cases = c.in-Some.ensures.cases in
    search rules

pub loop-first-preserved : goal.loop-first-preserved
loop-first-preserved c =
    let first = sym c.bits.ensures ∙ eq-eqb _ _ c.if-bits-ne0.false in
    let parts = all_rest is_null c.loop-first.left.now 64 in
    let cases = c.in-Some.ensures.cases in
    search rules
