-- `writer_measuring::numerals::integer_bytes` meets its contract, by the word's sign.
use Prim.Native.Nat.{◌+◌, ◌-◌, ◌/◌}
use native.Mathlib.Omega.{arith}
use mathlib.Core.Path.{ap}
use lib.ListN.{length}
use Rattle.writer_measuring.proofs.Digits.{length_digits, unsigned, signed}
use Rattle.writer_measuring.proofs.numerals.integer_bytes.Goals as goal

pub returns-then-word-lt-NEGATIVE : goal.returns-then-word-lt-NEGATIVE
returns-then-word-lt-NEGATIVE c =
    let w = c.args.word in
    omega (arith, length_digits (w / 2) _ c.digit_count.ensures.is, ap length (unsigned w c.if-word-lt-NEGATIVE.true))

pub returns : goal.returns
returns c =
    let w = c.args.word in
    omega (
      arith,
      length_digits ((4_294_967_295 - w) / 2 + 1) _ c.digit_count-2.ensures.is,
      ap length
          (signed w c.if-word-lt-NEGATIVE.false),
    )
