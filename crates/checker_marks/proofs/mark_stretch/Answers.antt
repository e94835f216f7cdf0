-- `checker_marks::mark_stretch` meets its contract: the end of a stretch is one that either walker takes.
use native.Mathlib.Omega.{arith}
use Rattle.checker_marks.proofs.Stretches.{stretch_within}
use Rattle.checker_marks.proofs.mark_stretch.Goals as goal

pub mark_each-requires : goal.mark_each-requires
mark_each-requires c =
    let is = c.stretch_end.ensures in
    let within = stretch_within c.args.from c.args.part.free.0 4096 c.requires.3 (omega arith) in
    (c.requires.0, c.requires.1, c.requires.2, omega arith, omega arith, c.requires.4)

pub mark_by_runs-requires : goal.mark_by_runs-requires
mark_by_runs-requires c =
    let is = c.stretch_end-2.ensures in
    let within = stretch_within c.args.from c.args.part.free.0 256 c.requires.3 (omega arith) in
    (c.requires.0, c.requires.1, c.requires.2, omega arith, omega arith, c.requires.4)
