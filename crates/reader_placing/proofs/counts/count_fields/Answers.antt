-- `reader_placing::counts::count_fields` meets its contract. The loop's invariant: the open counts, the counts that are stored and
-- the place of the first of these are the tally of the bytes that were passed.
use Prim.Native.Nat.{◌-◌}
use native.Mathlib.Omega.{arith}
use mathlib.Core.Path.{refl, sym, ◌∙◌}
use lib.ListN.{get_or}
use Rattle.reader_numerals.proofs.Steps.{ascii_digit}
use Rattle.reader_placing.proofs.Stacks.{at-end, digit-passed, other-passed, grows, opens, closes, all-passed}
use Rattle.reader_placing.proofs.counts.count_fields.Goals as goal

pub loop-place-init : goal.loop-place-init
loop-place-init c = λ g a. at-end _ _ _ _ refl

pub loop-place-preserved-then-is_ascii_digit : goal.loop-place-preserved-then-is_ascii_digit
loop-place-preserved-then-is_ascii_digit c = λ g a.
    digit-passed _ _ _ _ _ _ _ _ (c.loop-place.invariant g a) (omega (arith, c.loop-place-test.true))
    (sym (ascii_digit (get_or c.args.text.now (c.loop-place.place - 1) 0)) ∙ sym c.is_ascii_digit.ensures.value ∙ c.if-is_ascii_digit.true)

pub overflow_sub-open : goal.overflow_sub-open
overflow_sub-open c =
    let g = c.requires.0 in
    let a = c.requires.1 in
    (grows _ _ _ _ _ _ _ _ (c.loop-place.invariant g a) (omega (arith, c.loop-place-test.true))
    g a c.if-byte-eq-COMMA.true).some

pub overflow_add-open : goal.overflow_add-open
overflow_add-open c =
    let g = c.requires.0 in
    let a = c.requires.1 in
    let k = grows _ _ _ _ _ _ _ _ (c.loop-place.invariant g a) (omega (arith, c.loop-place-test.true))
    g a c.if-byte-eq-COMMA.true in
    omega (arith, k.some, k.small, (c.loop-place.invariant g a).few)

pub loop-place-preserved-then-byte-eq-COMMA : goal.loop-place-preserved-then-byte-eq-COMMA
loop-place-preserved-then-byte-eq-COMMA c = λ g a.
    (grows _ _ _ _ _ _ _ _ (c.loop-place.invariant g a) (omega (arith, c.loop-place-test.true))
    g a c.if-byte-eq-COMMA.true).again

pub bounds-open-top-then-is_closer : goal.bounds-open-top-then-is_closer
bounds-open-top-then-is_closer c =
    let g = c.requires.0 in
    let a = c.requires.1 in
    omega (
      arith,
      (opens _ _ _ _ _ _ _ _ (c.loop-place.invariant g a) (omega (arith, c.loop-place-test.true))
          g a c.if-byte-eq-COMMA.false (sym c.is_closer.ensures ∙ c.if-is_closer.true)).few,
    )

pub loop-place-preserved-then-is_closer : goal.loop-place-preserved-then-is_closer
loop-place-preserved-then-is_closer c = λ g a.
    (opens _ _ _ _ _ _ _ _ (c.loop-place.invariant g a) (omega (arith, c.loop-place-test.true))
    g a c.if-byte-eq-COMMA.false (sym c.is_closer.ensures ∙ c.if-is_closer.true)).again

pub overflow_sub-top : goal.overflow_sub-top
overflow_sub-top c =
    let g = c.requires.0 in
    let a = c.requires.1 in
    (closes _ _ _ _ _ _ _ _ (c.loop-place.invariant g a) (omega (arith, c.loop-place-test.true))
    g a c.if-byte-eq-COMMA.false (sym c.is_closer.ensures ∙ c.if-is_closer.false) (sym c.is_opener.ensures ∙ c.if-is_opener.true)).some

pub overflow_sub-slot : goal.overflow_sub-slot
overflow_sub-slot c =
    let g = c.requires.0 in
    let a = c.requires.1 in
    (closes _ _ _ _ _ _ _ _ (c.loop-place.invariant g a) (omega (arith, c.loop-place-test.true))
    g a c.if-byte-eq-COMMA.false (sym c.is_closer.ensures ∙ c.if-is_closer.false) (sym c.is_opener.ensures ∙ c.if-is_opener.true)).room

pub bounds-text-place-then-is_opener : goal.bounds-text-place-then-is_opener
bounds-text-place-then-is_opener c =
    let g = c.requires.0 in
    let a = c.requires.1 in
    omega (
      arith,
      c.loop-place-test.true,
      (closes _ _ _ _ _ _ _ _ (c.loop-place.invariant g a) (omega (arith, c.loop-place-test.true))
          g a c.if-byte-eq-COMMA.false (sym c.is_closer.ensures ∙ c.if-is_closer.false) (sym c.is_opener.ensures ∙ c.if-is_opener.true)).behind,
    )

pub loop-place-preserved-then-text-place-eq-CLOSER : goal.loop-place-preserved-then-text-place-eq-CLOSER
loop-place-preserved-then-text-place-eq-CLOSER c = λ g a.
    (closes _ _ _ _ _ _ _ _ (c.loop-place.invariant g a) (omega (arith, c.loop-place-test.true))
    g a c.if-byte-eq-COMMA.false (sym c.is_closer.ensures ∙ c.if-is_closer.false) (sym c.is_opener.ensures ∙ c.if-is_opener.true)).none c.if-text-place-eq-CLOSER.true

pub loop-place-preserved-then-is_opener : goal.loop-place-preserved-then-is_opener
loop-place-preserved-then-is_opener c = λ g a.
    (closes _ _ _ _ _ _ _ _ (c.loop-place.invariant g a) (omega (arith, c.loop-place-test.true))
    g a c.if-byte-eq-COMMA.false (sym c.is_closer.ensures ∙ c.if-is_closer.false) (sym c.is_opener.ensures ∙ c.if-is_opener.true)).again c.if-text-place-eq-CLOSER.false

pub loop-place-preserved : goal.loop-place-preserved
loop-place-preserved c = λ g a.
    other-passed _ _ _ _ _ _ _ _ (c.loop-place.invariant g a) (omega (arith, c.loop-place-test.true))
    c.if-byte-eq-COMMA.false (sym c.is_closer.ensures ∙ c.if-is_closer.false) (sym c.is_opener.ensures ∙ c.if-is_opener.false)

pub returns : goal.returns
returns c = λ g a. all-passed _ _ _ _ _ _ _ _ (c.loop-place.invariant g a) g a (omega (arith, c.loop-place-test.false))
