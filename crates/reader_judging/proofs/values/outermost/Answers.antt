-- `reader_judging::values::outermost` meets its contract.
use native.Mathlib.Omega.{arith}
use mathlib.Core.Path.{sym, ◌∙◌}
use Rattle.reader_judging.proofs.Sorts.{a_tuple}
use Rattle.reader_judging.proofs.Verdicts.{from_none}
use Rattle.reader_judging.proofs.values.outermost.Goals as goal

pub returns : goal.returns
returns c = let p = c.requires in
    from_none _ _ _ _ p.words
    (a_tuple 64 c.args.text.now 0 p.some (λ e. omega arith)
    (sym p.begins ∙ c.if-first-ne-OPENER.false) c.args.found.now.words _ _ c.tuple.ensures)
