-- The loop's invariant: with the digits that are left, the bytes are those with all digits.
use Prim.Native.Nat.{◌-◌}
use mathlib.Core.Path.{◌≡◌}
use lib.Seq.{sets}
use Rattle.writer_measuring.specs.Numerals.{padded}
use Rattle.writer_spelling.proofs.numerals.store_digits.Given as goal

abbrev pub invariant-loop-place : goal.invariant-loop-place
invariant-loop-place l =
    sets l.text l.at (padded (l.place - l.at) l.rest)
    ≡ sets l.initial.text l.at (padded (l.initial.place - l.at) l.initial.rest)
