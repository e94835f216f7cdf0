-- `runs::clear_few` meets its contract: each return is `cleared` at its number of words.
use native.Mathlib.Omega.{arith}
use native.Mathlib.Nat.{add-zero}
use mathlib.Core.Path.{◌≡◌}
use Rattle.runs.specs.Runs.{cleared}
use Rattle.runs.proofs.clear_few.Goals as goal

pub returns-then-n-eq0 : goal.returns-then-n-eq0
unfolding cleared
returns-then-n-eq0 c = let e : c.args.n ≡ 0 = omega arith in rw e

pub returns-then-n-eq1 : goal.returns-then-n-eq1
unfolding cleared
returns-then-n-eq1 c = let e : c.args.n ≡ 1 = omega arith in simp (e, add-zero)

pub returns-then-n-eq2 : goal.returns-then-n-eq2
unfolding cleared
returns-then-n-eq2 c = let e : c.args.n ≡ 2 = omega arith in simp (e, add-zero)

pub returns-then-n-eq3 : goal.returns-then-n-eq3
unfolding cleared
returns-then-n-eq3 c = let e : c.args.n ≡ 3 = omega arith in simp (e, add-zero)

pub returns : goal.returns
unfolding cleared
returns c = let e : c.args.n ≡ 4 = omega arith in simp (e, add-zero)
