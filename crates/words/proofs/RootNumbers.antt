-- Two root numbers: both are those of roots where they are not refused, and the larger is tested for both.
use Rattle.std.proofs.Common.{◌≡◌, ℕ, ◌<◌, false, ◌||◌, leb, leb-false}
use Rattle.theory.proofs.Tests.{or-none}

pub both_below : (roots one other : ℕ) → (leb roots one || leb roots other) ≡ false → (one < roots) × (other < roots)
both_below roots one other h =
    let e = or-none (leb roots one) (leb roots other) h in
    (leb-false roots one e.0, leb-false roots other e.1)
