-- `runs::copy_few` meets its contract: each return is `copied_run` at its number of words.
use native.Mathlib.Omega.{arith}
use native.Mathlib.Nat.{add-zero}
use mathlib.Core.Path.{◌≡◌}
use Rattle.runs.specs.Runs.{copied_run}
use Rattle.runs.proofs.copy_few.Goals as goal

pub returns-then-n-eq0 : goal.returns-then-n-eq0
unfolding copied_run
returns-then-n-eq0 c = let e : c.args.n ≡ 0 = omega arith in rw e

pub returns-then-n-eq1 : goal.returns-then-n-eq1
unfolding copied_run
returns-then-n-eq1 c = let e : c.args.n ≡ 1 = omega arith in simp (e, add-zero)

pub returns-then-n-eq2 : goal.returns-then-n-eq2
unfolding copied_run
returns-then-n-eq2 c = let e : c.args.n ≡ 2 = omega arith in simp (e, add-zero)

pub returns-then-n-eq3 : goal.returns-then-n-eq3
unfolding copied_run
returns-then-n-eq3 c = let e : c.args.n ≡ 3 = omega arith in simp (e, add-zero)

pub returns : goal.returns
unfolding copied_run
returns c = let e : c.args.n ≡ 4 = omega arith in simp (e, add-zero)
