-- `checker_fields::Objects::judge_pairs` meets its contract: by one pair more.
use Prim.Native.Nat.{ℕ, suc, ◌+◌, ◌≤◌}
use native.Mathlib.Omega.{arith}
use mathlib.Core.Path.{◌≡◌, refl, sym, ap, ◌∙◌}
use mathlib.Core.Logic.{inl}
use mathlib.Core.Bool.{Bool, true, ◌&&◌, and-true}
use mathlib.Core.List.{List, ◌∷◌}
use lib.ListN.{length, drop}
use lib.Seq.{drop-cons}
use Rattle.model.specs.Headers.{tuple}
use Rattle.model.specs.Objects.{is_traced}
use Rattle.model.specs.Soundness.{all}
use Rattle.model.specs.Words as words
use Rattle.runs.specs.Runs.{run}
use Rattle.checker_marks.specs.Asked.{is_value}
use Rattle.checker_marks.specs.Verdicts.{holds}
use Rattle.checker_fields.proofs.Turns.{ToJudge, fields_at, within_at, passes_at}
use Rattle.checker_fields.proofs.Objects.judge_pairs.Goals as goal

-- two words in a row
two_words : (q : ℕ → Bool) (H : List ℕ) (i j : ℕ) → j ≡ i + 1 → i + 2 ≤ length H
    → all q (run H i 2) ≡ (q (words.at H i) && q (words.at H j))
two_words q H i j next fits =
    let step : suc i ≡ j = omega arith in
    let rest = ap (λ (k : ℕ). drop k H) step ∙ drop-cons H j 0 (omega arith) in
    let two = drop-cons H i 0 (omega arith) ∙ ap (λ (l : List ℕ). words.at H i ∷ l) rest in
    rw (two, and-true) refl

-- a pair has two fields, and they are traced
pair-count : tuple.count_of 4 ≡ 2
unfolding tuple
pair-count = refl

pair-traced : is_traced (tuple.kind_of 4) ≡ true
unfolding tuple
pair-traced = refl

fields : (H : List ℕ) (i : ℕ) → words.at H i ≡ 4 → ToJudge tuple H i 2
fields H i met =
    inl (ap (λ (h : ℕ). is_traced (tuple.kind_of h)) met ∙ pair-traced, sym (ap tuple.count_of met ∙ pair-count))

pub bounds-self-at-in-loop-at : goal.bounds-self-at-in-loop-at
bounds-self-at-in-loop-at c =
    let there = fields c.args.self.words.now c.loop-at.at (omega arith) in
    let fits = within_at c.args.self _ c.loop-at.invariant.tiled (omega arith) 2 there in
    omega arith

pub bounds-self-at-in-loop-at-2 : goal.bounds-self-at-in-loop-at-2
bounds-self-at-in-loop-at-2 c =
    let there = fields c.args.self.words.now c.loop-at.at (omega arith) in
    let fits = within_at c.args.self _ c.loop-at.invariant.tiled (omega arith) 2 there in
    omega arith

pub loop-at-preserved : goal.loop-at-preserved
loop-at-preserved c =
    let l = c.loop-at in
    let o = c.args.self in
    let met : words.at o.words.now l.at ≡ 4 = omega arith in
    let there = fields o.words.now l.at met in
    let count = ap tuple.count_of met ∙ pair-count in
    let fits = within_at o l.at l.invariant.tiled (omega arith) 2 there in
    let judged = holds c.judge-one.result && holds c.judge-two.result in
    let words = two_words (is_value o.marks) o.words.now (l.at + 1) (l.at + 2) (omega arith) (omega arith) in
    let are : judged ≡ all (is_value o.marks) (run o.words.now (l.at + 1) 2) =
    rw (c.judge-one.ensures, c.judge-two.ensures) (sym words) in
    rw (c.bitand-verdict.ensures, c.bitand.ensures)
    (passes_at o c.args.from l.at (holds l.verdict) l.invariant c.requires.0 (omega arith) judged (fields_at o l.at 2 2 there refl judged are)
    (l.at + 3) (omega arith))
