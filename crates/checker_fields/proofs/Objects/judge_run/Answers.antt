-- `checker_fields::Objects::judge_run` meets its contract: by the walk that it hands over to, or by one object passed.
use native.Mathlib.Omega.{arith}
use mathlib.Core.Path.{refl, sym, ◌∙◌}
use mathlib.Core.Logic.{inl, inr}
use Rattle.model.specs.Headers.{tuple}
use Rattle.checker_fields.proofs.Turns.{ToJudge, fields_at, within_at, passed_at}
use Rattle.checker_fields.proofs.Objects.judge_run.Goals as goal

pub returns-then-not-is_traced : goal.returns-then-not-is_traced
returns-then-not-is_traced c =
    let o = c.args.self in
    let count = c.count_of-n.ensures.is in
    let fields : ToJudge tuple o.words.now c.args.from 0 =
    inr (sym c.is_traced.ensures ∙ c.if-not-is_traced.true, refl) in
    passed_at o _ c.requires.0 (omega arith) _ (fields_at o _ 0 0 fields refl _ c.yes.ensures) _ (omega arith)

pub slice_bounds-judge_words-end : goal.slice_bounds-judge_words-end
slice_bounds-judge_words-end c =
    let o = c.args.self in
    let fields : ToJudge tuple o.words.now c.args.from c.count_of-n.result =
    inl (sym c.is_traced.ensures ∙ c.if-not-is_traced.false, c.count_of-n.ensures.is) in
    let fits = within_at o _ c.requires.0 (omega arith) _ fields in
    omega arith

pub returns : goal.returns
returns c =
    let o = c.args.self in
    let count = c.count_of-n.ensures.is in
    let fields : ToJudge tuple o.words.now c.args.from c.count_of-n.result =
    inl (sym c.is_traced.ensures ∙ c.if-not-is_traced.false, count) in
    let judged = fields_at o c.args.from _ _ fields (omega arith) _ c.judge_words-verdict.ensures in
    passed_at o _ c.requires.0 (omega arith) _ judged _ (omega arith)
