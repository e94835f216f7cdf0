-- `blind::same` meets its contract: refused as `admit_both` says, or yes or no by the words.
use Rattle.std.proofs.Common.{sym, ap}
use borrow.Author.Tests.{eq-eqb, ne_eqb}
use mathlib.Core.Bool.{Bool, cond}
use Rattle.model.specs.declared.Answer.TheVariants as Says
use Rattle.model.specs.Words.{State, state_of}
use Rattle.model.specs.Answers.{Outcome, says}
use Rattle.model.specs.Calls.{same}
use Rattle.words.proofs.Admitted.{passed_on, not_admitted, admitted_own}
use Rattle.blind.proofs.roots.same.Goals as goal

-- what is said of two words, by whether they are equal
abbrev answer : State → Bool → Outcome State
answer s b = says (cond b Says.Yes Says.No) s

pub returns-in_err-admit_both : goal.returns-in_err-admit_both
unfolding same
returns-in_err-admit_both c =
    rw (passed_on _ c.from_residual.ensures.1) (not_admitted _ _ c.admit_both.ensures.is _ c.in_err-admit_both.was)

pub returns-then-roots-one : goal.returns-then-roots-one
unfolding same
returns-then-roots-one c =
    admitted_own _ _ c.admit_both.ensures.is c.in_ok-admit_both.was
    (ap (answer (state_of c.args.heap.now c.args.roots.now c.args.«record»)) (sym (eq-eqb _ _ c.if-roots-one.true)))

pub returns : goal.returns
unfolding same
returns c =
    admitted_own _ _ c.admit_both.ensures.is c.in_ok-admit_both.was
    (ap (answer (state_of c.args.heap.now c.args.roots.now c.args.«record»)) (sym (ne_eqb _ _ c.if-roots-one.false)))
