-- `checker_fields::Objects::judge_object` meets its contract: the words judged are its fields, if it is traced.
use Prim.Native.Nat.{ℕ, ◌+◌, ◌≤◌}
use native.Mathlib.Omega.{arith}
use mathlib.Core.Path.{◌≡◌, refl, sym, ap, ◌∙◌}
use mathlib.Core.Logic.{inl, inr}
use mathlib.Core.List.{List}
use lib.ListN.{take, length}
use Rattle.std.proofs.lemmas.Slice.{between_to_end}
use Rattle.model.specs.Headers.{tuple}
use Rattle.model.specs.Soundness.{all}
use Rattle.checker_marks.specs.Asked.{is_value}
use Rattle.checker_fields.proofs.Turns.{ToJudge, fields_at, within_at}
use Rattle.checker_fields.proofs.Objects.judge_object.Goals as goal
use Rattle.checker_fields.proofs.Objects.judge_object.Goals.{then-is_traced, else-is_traced}

pub judge_small-requires : goal.judge_small-requires
judge_small-requires c =
    let o = c.args.self in
    let is = sym c.is_traced.ensures in
    let fields : ToJudge tuple o.words.now c.args.from c.if-is_traced.fields =
    elim c.if-is_traced.branch [
      | then-is_traced w ↦ inl (is ∙ w.if-is_traced.true, w.fields-is ∙ c.count_of-n.ensures.is)
      | else-is_traced w ↦ inr (is ∙ w.if-is_traced.false, w.fields-is)
    ] in
    let fits = within_at o _ c.requires.0 c.requires.1 _ fields in
    let small = c.if-n-le4.true in
    let most : c.if-is_traced.fields ≤ 4 =
    elim c.if-is_traced.branch [
      | then-is_traced w ↦ omega (arith, w.fields-is)
      | else-is_traced w ↦ omega (arith, w.fields-is)
    ] in
    (omega arith, most)

pub returns-then-n-le4 : goal.returns-then-n-le4
returns-then-n-le4 c =
    let o = c.args.self in
    let is = sym c.is_traced.ensures in
    let fields : ToJudge tuple o.words.now c.args.from c.if-is_traced.fields =
    elim c.if-is_traced.branch [
      | then-is_traced w ↦ inl (is ∙ w.if-is_traced.true, w.fields-is ∙ c.count_of-n.ensures.is)
      | else-is_traced w ↦ inr (is ∙ w.if-is_traced.false, w.fields-is)
    ] in
    let n = c.if-is_traced.fields in
    let rest = between_to_end o.words.now (c.args.from + 1) (length o.words.now) (omega arith) in
    fields_at o c.args.from n n fields refl _
    (c.judge_small.ensures ∙ ap (λ (l : List ℕ). all (is_value o.marks) (take n l)) rest)

pub returns-then-fields-eq0 : goal.returns-then-fields-eq0
returns-then-fields-eq0 c =
    let o = c.args.self in
    let is = sym c.is_traced.ensures in
    let fields : ToJudge tuple o.words.now c.args.from c.if-is_traced.fields =
    elim c.if-is_traced.branch [
      | then-is_traced w ↦ inl (is ∙ w.if-is_traced.true, w.fields-is ∙ c.count_of-n.ensures.is)
      | else-is_traced w ↦ inr (is ∙ w.if-is_traced.false, w.fields-is)
    ] in
    let none : 0 ≡ c.if-is_traced.fields = omega (arith, c.if-fields-eq0.true) in
    fields_at o c.args.from _ 0 fields none _ c.yes.ensures

pub slice_bounds-judge_words-end : goal.slice_bounds-judge_words-end
slice_bounds-judge_words-end c =
    let o = c.args.self in
    let is = sym c.is_traced.ensures in
    let fields : ToJudge tuple o.words.now c.args.from c.if-is_traced.fields =
    elim c.if-is_traced.branch [
      | then-is_traced w ↦ inl (is ∙ w.if-is_traced.true, w.fields-is ∙ c.count_of-n.ensures.is)
      | else-is_traced w ↦ inr (is ∙ w.if-is_traced.false, w.fields-is)
    ] in
    let fits = within_at o _ c.requires.0 c.requires.1 _ fields in
    omega arith

pub returns : goal.returns
returns c =
    let o = c.args.self in
    let is = sym c.is_traced.ensures in
    let fields : ToJudge tuple o.words.now c.args.from c.if-is_traced.fields =
    elim c.if-is_traced.branch [
      | then-is_traced w ↦ inl (is ∙ w.if-is_traced.true, w.fields-is ∙ c.count_of-n.ensures.is)
      | else-is_traced w ↦ inr (is ∙ w.if-is_traced.false, w.fields-is)
    ] in
    fields_at o c.args.from _ _ fields (omega arith) _ c.judge_words.ensures
