-- `writer_spelling::numerals::spell_natural` meets its contract: its digits have room, and are stored.
use native.Mathlib.Omega.{arith}
use Rattle.writer_measuring.proofs.Digits.{length_digits}
use Rattle.writer_spelling.proofs.Digits.{digits_fit}
use Rattle.writer_spelling.proofs.numerals.spell_natural.Goals as goal

pub store_digits-requires : goal.store_digits-requires
store_digits-requires c = omega (arith, c.requires, length_digits c.args.number _ c.digit_count-count.ensures.is)

pub returns : goal.returns
returns c =
    let a = c.args in
    let count = c.digit_count-count in
    digits_fit a.number count.result count.ensures.is a.at a.text.now _ c.store_digits.ensures c.requires
