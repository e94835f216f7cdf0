-- `reader_numerals::natural` meets its contract.
use native.Mathlib.Omega.{arith}
use Rattle.reader_numerals.proofs.Naturals.{none_left, none_low, none-high, too_large, in_range}
use Rattle.reader_numerals.proofs.natural.Goals as goal
use Rattle.reader_numerals.proofs.natural.Goals.{then-first-lt-LEAST_LEADING-via-then-first-lt-LEAST_LEADING, then-first-lt-LEAST_LEADING-via-else-first-lt-LEAST_LEADING+then-not-is_ascii_digit}

pub returns-in_default : goal.returns-in_default
returns-in_default c = none_left _ _ _ (omega (arith, c.in_default.ensures.lookup.3))

pub returns-then-first-lt-LEAST_LEADING : goal.returns-then-first-lt-LEAST_LEADING
returns-then-first-lt-LEAST_LEADING c =
    let h = c.in-Some.ensures.lookup.3 in
    elim c.then-first-lt-LEAST_LEADING.branch [
      | then-first-lt-LEAST_LEADING-via-then-first-lt-LEAST_LEADING w ↦ none_low _ _ _ h.0 (omega (arith, h.1 0))
      | then-first-lt-LEAST_LEADING-via-else-first-lt-LEAST_LEADING+then-not-is_ascii_digit w ↦ none-high _ _ _ h.0 (grind (arith, h.1 0))
    ]

pub returns-then-number-most : goal.returns-then-number-most
returns-then-number-most c =
    let h = c.in-Some.ensures.lookup.3 in
    too_large _ _ _ _ _ h.0 (omega (arith, h.1 0), grind (arith, h.1 0)) c.digits-number.ensures c.if-number-most.true

pub returns : goal.returns
returns c =
    let h = c.in-Some.ensures.lookup.3 in
    in_range _ _ _ _ _ h.0 (omega (arith, h.1 0), grind (arith, h.1 0)) c.digits-number.ensures c.if-number-most.false
