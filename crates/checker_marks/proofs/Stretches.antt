-- A stretch of words ends behind its start and not behind the free index.
use Prim.Native.Nat.{ℕ, ◌+◌, ◌-◌, ◌≤◌, ◌<◌}
use native.Mathlib.Omega.{arith}
use lib.Dec.{ltb}
use borrow.Author.Tests.{ltb-false}
use Rattle.theory.proofs.Tests.{cond-holds}
use Rattle.checker_marks.specs.Marks.{stretch_end}

pub stretch_within : (i e n : ℕ) → i < e → 0 < n → (i < stretch_end i e n) × (stretch_end i e n ≤ e)
unfolding stretch_end
stretch_within i e n d some =
    cond-holds (λ (r : ℕ). (i < r) × (r ≤ e)) (ltb (e - i) n) e (i + n)
    (λ t. (d, omega arith))
    (λ f. let l = ltb-false (e - i) n f in (omega arith, omega arith))
