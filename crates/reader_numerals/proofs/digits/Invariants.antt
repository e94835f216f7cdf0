-- `reader_numerals::digits` meets its contract. The loop's invariant: what follows the first digit comes to what follows the
-- digits up to the present place, whose number has as many digits.
use Prim.Native.Nat.{◌+◌, ◌-◌}
use mathlib.Core.Path.{◌≡◌}
use mathlib.Core.Bool.{Bool}
use lib.ListN.{get_or}
use Rattle.model.specs.Reading.{Open, digits, go}
use Rattle.reader_numerals.specs.Numerals.{rest}
use Rattle.reader_numerals.proofs.DigitRuns.{Sized, so_far}
use Rattle.reader_numerals.proofs.digits.Given as goal

abbrev pub invariant-loop-place : goal.invariant-loop-place
invariant-loop-place l = Sized (l.place - l.from) l.number
    × ((neg : Bool) (o : Open) → rest l.text (go (digits neg (get_or l.text l.from 0 - 48) o)) (l.from + 1) ≡ rest l.text (so_far neg l.number o) l.place)
