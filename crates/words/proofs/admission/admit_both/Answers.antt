-- `words::admission::admit_both` meets its contract, test by test.
use Rattle.std.proofs.Common.{sym, ◌∙◌}
use Rattle.words.specs.Admits.{admits}
use Rattle.words.proofs.admission.admit_both.Goals as goal

pub returns-then-bad_shape-clause-is : goal.returns-then-bad_shape-clause-is
unfolding admits
returns-then-bad_shape-clause-is c = simp (sym c.bad_shape.ensures ∙ c.if-bad_shape.true)

pub returns-then-no_root-clause-is : goal.returns-then-no_root-clause-is
unfolding admits
returns-then-no_root-clause-is c = simp (sym c.bad_shape.ensures ∙ c.if-bad_shape.false, sym c.no_root.ensures ∙ c.if-no_root.true)

pub returns-clause-is : goal.returns-clause-is
unfolding admits
returns-clause-is c = simp (sym c.bad_shape.ensures ∙ c.if-bad_shape.false, sym c.no_root.ensures ∙ c.if-no_root.false)
