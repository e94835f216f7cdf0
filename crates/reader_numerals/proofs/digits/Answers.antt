-- `reader_numerals::digits` meets its contract. The loop's invariant: what follows the first digit comes to what follows the
-- digits up to the present place, whose number has as many digits.
use Prim.Native.Nat.{ℕ, ◌+◌, ◌-◌}
use native.Mathlib.Omega.{arith}
use mathlib.Core.Path.{◌≡◌, sym, ap, ◌∙◌}
use lib.ListN.{get_or}
use Rattle.model.specs.Reading.{Next}
use Rattle.theory.proofs.Tests.{never}
use Rattle.reader_numerals.specs.Numerals.{rest, of_digits}
use Rattle.reader_numerals.proofs.Steps.{step_to, digit_bounds, ascii_digit}
use Rattle.reader_numerals.proofs.DigitRuns.{size-first, size-more, size_fits, size-full, one_more, no_more, first_so_far, full, size-some}
use Rattle.reader_numerals.proofs.digits.Goals as goal

pub loop-place-init : goal.loop-place-init
loop-place-init c = let a = c.args in
    let p = c.requires.1 in (
      size-first (a.from + 1 - a.from) _ (omega arith) (omega (arith, p.0)) (omega (arith, p.1)),
      λ neg o. ap (λ (x : Next). rest a.text.now x (a.from + 1)) (first_so_far neg _ o (omega (arith, p.1))),
    )

pub returns-then-not-is_ascii_digit : goal.returns-then-not-is_ascii_digit
returns-then-not-is_ascii_digit c = let l = c.loop-place in record {
  beyond = omega arith;
  within = omega arith;
  leads = λ neg o. l.invariant.1 neg o
      ∙ no_more neg l.number o c.args.text.now l.place (omega arith)
      (λ h d. never d (sym (ascii_digit (get_or c.args.text.now c.loop-place.place 0)) ∙ sym c.is_ascii_digit.ensures.value ∙ c.if-not-is_ascii_digit.true));
}

pub overflow_mul-number : goal.overflow_mul-number
overflow_mul-number c = let l = c.loop-place in
    omega (arith, size_fits (l.place - c.args.from) l.number (omega arith) l.invariant.0)

pub overflow_add-number : goal.overflow_add-number
overflow_add-number c = let l = c.loop-place in
    omega (
      arith,
      (digit_bounds (get_or c.args.text.now c.loop-place.place 0) (sym (ascii_digit (get_or c.args.text.now c.loop-place.place 0)) ∙ sym c.is_ascii_digit.ensures.value ∙ c.if-not-is_ascii_digit.false)).1,
      size_fits (l.place - c.args.from) l.number (omega arith) l.invariant.0,
    )

pub loop-place-preserved : goal.loop-place-preserved
loop-place-preserved c = let a = c.args in
    let l = c.loop-place in
    let p = digit_bounds (get_or c.args.text.now c.loop-place.place 0) (sym (ascii_digit (get_or c.args.text.now c.loop-place.place 0)) ∙ sym c.is_ascii_digit.ensures.value ∙ c.if-not-is_ascii_digit.false) in
    let s = l.invariant.0 in (
      size-more (l.place - a.from) (l.place + 1 - a.from) l.number (get_or c.args.text.now c.loop-place.place 0 - 48) (omega arith) (omega (arith, p.1)) s,
      λ neg o. l.invariant.1 neg o
          ∙ step_to a.text.now _ _ l.place (omega arith) (one_more neg l.number o _ (size-some _ _ s) p.0 p.1),
    )

pub returns : goal.returns
returns c = let l = c.loop-place in
    let f = c.args.from in
    let e : l.place ≡ c.min-last.result = omega arith in
    record {
      beyond = omega arith;
      within = omega arith;
      leads = λ neg o. l.invariant.1 neg o
          ∙ no_more neg l.number o c.args.text.now l.place (omega arith)
          (λ h d. full neg l.number _ (size-full (l.place - f) l.number (omega arith) l.invariant.0))
          ∙ ap (λ (i : ℕ). rest c.args.text.now (of_digits neg l.number o) i) e;
    }
