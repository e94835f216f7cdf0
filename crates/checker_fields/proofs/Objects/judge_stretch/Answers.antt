-- `checker_fields::Objects::judge_stretch` meets its contract: a stretch has words and ends before the free index, or there.
use native.Mathlib.Omega.{arith}
use Rattle.checker_marks.proofs.Stretches.{stretch_within}
use Rattle.checker_fields.proofs.Objects.judge_stretch.Goals as goal

pub judge_each-requires : goal.judge_each-requires
judge_each-requires c =
    let is = c.stretch_end.ensures in
    let within = stretch_within c.args.from c.args.self.marks.free 4096 c.requires.1 (omega arith) in
    (c.requires.0, omega arith, omega arith)

pub judge_by_runs-requires : goal.judge_by_runs-requires
judge_by_runs-requires c =
    let is = c.stretch_end-2.ensures in
    let within = stretch_within c.args.from c.args.self.marks.free 256 c.requires.1 (omega arith) in
    (c.requires.0, omega arith, omega arith)
