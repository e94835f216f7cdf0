-- `reader::read` meets its contract: one case of the definition for each return, by what the text was judged to be.
use mathlib.Core.Path.{◌≡◌, ap, ◌∙◌}
use lib.IntN.{ℤ}
use mir.Syntax.{w32, w64}
use mir.Val.{to_z, of_z}
use mir.ValLaws.{to_z-of_z}
use Rattle.model.specs.Headers.{tuple}
use Rattle.model.specs.Words.{State, state_of, with_text}
use Rattle.model.specs.Trees.{Forest}
use Rattle.model.specs.Calls.{set_integer}
use Rattle.reader.specs.Planting.{Stands}
use Rattle.reader.proofs.Judgements.{is-integer, integer-fits, is-refused, is-tuple}
use Rattle.reader.proofs.ReadCases.{read_unadmitted, read-refused, read-tuple, read-integer, set_beside}
use Rattle.std.proofs.lemmas.Result.{IfOk-at_ok}
use Rattle.words.specs.Admits.{admits}
use Rattle.words.proofs.Admitted.{admitted_tests}
use Rattle.reader.proofs.read.Goals as goal

pub returns-in-Err : goal.returns-in-Err
unfolding admits
returns-in-Err c =
    let s : State = state_of c.args.heap.now c.args.roots.now c.args.«record» in
    rw c.refuse.ensures
    (read_unadmitted tuple _ (with_text c.args.text.now s) c.admit.ensures.is c.in-Err.is)

pub returns-in-Ok-Integer : goal.returns-in-Ok-Integer
returns-in-Ok-Integer c =
    let s : State = state_of c.args.heap.now c.args.roots.now c.args.«record» in
    let v = c.in-Ok-Integer.value in
    let e = is-integer _ _ (rw c.in-Ok-Integer.field-0-is at c.in-Ok-Integer.ensures) in
    let f = integer-fits _ v e in
    let whole : to_z w64 (of_z w64 (to_z w32 (of_z w32 v))) ≡ v =
    ap (λ (z : ℤ). to_z w64 (of_z w64 z)) (to_z-of_z w32 v f.0) ∙ to_z-of_z w64 v f.1 in
    set_beside tuple c.args.text.now s _ v
    (c.set_integer.ensures ∙ ap (λ (z : ℤ). set_integer c.args.to z s) whole)
    ∙ read-integer tuple _ (with_text c.args.text.now s) (admitted_tests _ _ c.admit.ensures.is c.in_default.is).0
    (IfOk-at_ok _ c.in_default.is c.admit.ensures.there) v e

pub returns-in-Ok-Tuple : goal.returns-in-Ok-Tuple
returns-in-Ok-Tuple c =
    let s : State = state_of c.args.heap.now c.args.roots.now c.args.«record» in
    let t : ((g : Forest) × Stands c.args.text.now c.in-Ok-Tuple.words g) =
    is-tuple _ _ (rw c.in-Ok-Tuple.field-0-is at c.in-Ok-Tuple.ensures) in
    c.read_tuple.ensures t.0 t.1
    ∙ read-tuple tuple _ (with_text c.args.text.now s) (admitted_tests _ _ c.admit.ensures.is c.in_default.is).0
    (IfOk-at_ok _ c.in_default.is c.admit.ensures.there) t.0 t.1.read

pub returns-in-Err-judge : goal.returns-in-Err-judge
returns-in-Err-judge c =
    let s : State = state_of c.args.heap.now c.args.roots.now c.args.«record» in
    rw c.refuse-in-Err-judge.ensures
    (read-refused tuple _ (with_text c.args.text.now s) (admitted_tests _ _ c.admit.ensures.is c.in_default.is).0
    (IfOk-at_ok _ c.in_default.is c.admit.ensures.there) _ (is-refused _ _ c.in-Err-judge.ensures))

pub read_tuple-requires : goal.read_tuple-requires
read_tuple-requires c = (
  (admitted_tests _ _ c.admit.ensures.is c.in_default.is).0,
  IfOk-at_ok _ c.in_default.is c.admit.ensures.there,
  is-tuple _ _ (rw c.in-Ok-Tuple.field-0-is at c.in-Ok-Tuple.ensures),
)
