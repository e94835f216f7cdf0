-- `reader_placing::numerals::magnitude` meets its contract. The loop's invariant: the digits that are left, onto the number so far,
-- make the number whose digits stand at the first place.
use Prim.Native.Nat.{ℕ, ◌-◌}
use lib.ListN.{length}
use Rattle.reader_placing.specs.Numerals.{DigitsAt}
use Rattle.reader_placing.proofs.Digits.{Left}
use Rattle.reader_placing.proofs.numerals.magnitude.Given as goal

abbrev pub invariant-loop-number : goal.invariant-loop-number
invariant-loop-number l = (n : ℕ) → DigitsAt l.text l.at n → Left l.text l.at n l.number l.place l.byte

abbrev pub decreases-loop-number : goal.decreases-loop-number
decreases-loop-number l = length l.text - l.place
