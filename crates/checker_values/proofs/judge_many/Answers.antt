-- `checker_values::judge_many` meets its contract: by 64 words more, judged where one is even.
use mathlib.Core.Path.{◌≡◌, ap, ◌∙◌}
use Rattle.std.proofs.Common.{rules}
use mathlib.Core.Bool.{Bool, true, ◌&&◌, and_assoc}
use Rattle.model.specs.Headers.{tuple}
use Rattle.model.specs.Soundness.{all}
use Rattle.checker_marks.specs.Asked.{is_value}
use Rattle.checker_marks.specs.Verdicts.{holds}
use Rattle.runs.proofs.RunLaws.{all_rest}
use Rattle.checker_values.proofs.PlainWords.{values-even}
use Rattle.checker_values.proofs.judge_many.Goals as goal

pub loop-first-preserved-then-even_bits-ne0 : goal.loop-first-preserved-then-even_bits-ne0
loop-first-preserved-then-even_bits-ne0 c =
    let parts = all_rest (is_value c.args.marks) c.loop-first.left.now 64 in
    let cases = c.in-Some.ensures.cases in
    let q = is_value c.args.marks in
    let first = c.in-Some.first.now in
    let rest = c.in-Some.rest.now in
    let judged : holds c.bitand-verdict.result ≡ (holds c.loop-first.verdict && all q first) =
    c.bitand-verdict.ensures ∙ ap (λ (b : Bool). holds c.loop-first.verdict && b) c.judge_fours.ensures in
    let whole : (all q first && all q rest) ≡ all q c.loop-first.left.now = search rules in
    rw judged (and_assoc (holds c.loop-first.verdict) (all q first) (all q rest)
    ∙ ap (λ (b : Bool). holds c.loop-first.verdict && b) whole ∙ c.loop-first.invariant)

pub loop-first-preserved : goal.loop-first-preserved
loop-first-preserved c =
    let parts = all_rest (is_value c.args.marks) c.loop-first.left.now 64 in
    let cases = c.in-Some.ensures.cases in
    let first : all (is_value c.args.marks) c.in-Some.first.now ≡ true =
    values-even tuple _ _ c.in-Some.first.now _ c.even_bits.ensures c.if-even_bits-ne0.false in
    search rules
