-- `checker_fields::Objects::judge_alike` meets its contract: by one object more, which has the header.
use Prim.Native.Nat.{ℕ}
use native.Mathlib.Omega.{arith}
use mathlib.Core.Path.{◌≡◌, sym, ap, ◌∙◌}
use mathlib.Core.Logic.{inl}
use mathlib.Core.List.{List}
use mathlib.Core.Bool.{true}
use Rattle.model.specs.Headers.{tuple}
use Rattle.model.specs.Objects.{is_traced}
use Rattle.model.specs.Words as words
use Rattle.checker_fields.proofs.Turns.{ToJudge, fields_at, within_at, passes_at}
use Rattle.checker_fields.proofs.Objects.judge_alike.Goals as goal

-- an object with a header whose n fields are traced
fields : (H : List ℕ) (i h n : ℕ) → words.at H i ≡ h → n ≡ tuple.count_of h → is_traced (tuple.kind_of h) ≡ true
    → ToJudge tuple H i n
fields H i h n same count traced =
    inl (ap (λ (h : ℕ). is_traced (tuple.kind_of h)) same ∙ traced, count ∙ ap tuple.count_of (sym same))

pub slice_bounds-judge_few-end : goal.slice_bounds-judge_few-end
slice_bounds-judge_few-end c =
    let there = fields c.args.self.words.now c.loop-at.at c.args.header _ (omega arith) c.count_of-n.ensures.is c.requires.4 in
    let fits = within_at c.args.self _ c.loop-at.invariant.tiled (omega arith) _ there in
    omega arith

pub loop-at-preserved : goal.loop-at-preserved
loop-at-preserved c =
    let l = c.loop-at in
    let o = c.args.self in
    let same : words.at o.words.now l.at ≡ c.args.header = omega arith in
    let there = fields o.words.now l.at c.args.header _ same c.count_of-n.ensures.is c.requires.4 in
    let count = c.count_of-n.ensures.is ∙ ap tuple.count_of (sym same) in
    let judged = fields_at o l.at _ _ there (omega arith) _ c.judge_few.ensures in
    rw c.bitand-verdict.ensures
    (passes_at o _ _ _ l.invariant c.requires.0 (omega arith) _ judged _ (omega arith))
