-- An index in a run: what its test says.
use Rattle.std.proofs.Common.{◌≡◌, ℕ, ◌+◌, ◌<◌, ◌≤◌, true, ◌&&◌, ltb, leb, ltb-true, leb-true}
use Rattle.theory.proofs.Tests.{and_both}

pub in_run : (at first count : ℕ) → (leb first at && ltb at (first + count)) ≡ true → (first ≤ at) × (at < first + count)
in_run at first count h =
    let b = and_both (leb first at) (ltb at (first + count)) h in
    (leb-true first at b.0, ltb-true at (first + count) b.1)
