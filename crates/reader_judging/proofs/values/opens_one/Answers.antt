-- `reader_judging::values::opens_one` meets its contract.
use Prim.Native.Nat.{◌+◌}
use mathlib.Core.Path.{sym, ◌∙◌}
use Rattle.theory.proofs.Tests.{never}
use Rattle.reader_numerals.proofs.Steps.{there, not_there}
use Rattle.reader_judging.proofs.Chains.{no_brace, no_one, equals}
use Rattle.reader_judging.proofs.values.opens_one.Goals as goal
use Rattle.reader_judging.proofs.values.opens_one.Goals.{then-is_at, else-is_at}

pub returns-then-is_at-2 : goal.returns-then-is_at-2
returns-then-is_at-2 c = elim c.if-is_at.branch [
  | then-is_at w ↦
      let h = there c.args.text.now c.args.at 123 _ c.is_at.ensures w.if-is_at.true in
      let g = there c.args.text.now (c.args.at + 1) 49 _ w.is_at-then-is_at.ensures (sym w.value-is ∙ c.if-is_at-2.true) in
      let z = c.is_at-then-is_at-2.ensures in
      equals _ _ h.0 h.1 _ g.0 g.1 (there c.args.text.now (c.args.at + 2) 61 _ z)
      (not_there c.args.text.now (c.args.at + 2) 61 _ z)
  | else-is_at w ↦ never c.if-is_at-2.true (w.value-is ∙ w.if-is_at.false)
]

pub returns-else-is_at-2 : goal.returns-else-is_at-2
returns-else-is_at-2 c = elim c.if-is_at.branch [
  | then-is_at w ↦
      let h = there c.args.text.now c.args.at 123 _ c.is_at.ensures w.if-is_at.true in
      no_one _ _ h.0 h.1 _ c.if-is_at-2.false (not_there c.args.text.now (c.args.at + 1) 49 _ w.is_at-then-is_at.ensures (sym w.value-is ∙ c.if-is_at-2.false))
  | else-is_at w ↦ no_brace _ _ _ c.if-is_at-2.false (not_there c.args.text.now c.args.at 123 _ c.is_at.ensures w.if-is_at.false)
]
