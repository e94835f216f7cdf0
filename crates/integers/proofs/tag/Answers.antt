-- `integers::tag` meets its contract, sign by sign.
use Prim.Native.Nat.{◌+◌, ◌-◌, ◌*◌}
use mathlib.Core.Path.{◌∙◌, ap, sym}
use lib.IntN.{ℤ, nat_abs}
use borrow.Author.Tests.{le-leb, lt-leb}
use Rattle.model.specs.Limits.{max_integer}
use Rattle.std.specs.Prelude.{Some}
use Rattle.integers.specs.Tagging.{tagged}
use Rattle.integers.proofs.Signs.{negative, natural, below-is, magnitude_is}
use Rattle.integers.proofs.tag.Goals as goal

pub returns-then-below : goal.returns-then-below
unfolding tagged
returns-then-below c =
    let f = c.ranges.value in
    let b = negative _ f c.if-value-lt0.true in
    let h = rw (below-is _ f b) at c.if-below.true in
    rw b.is (simp (lt-leb _ max_integer h))

pub returns-then-value-lt0 : goal.returns-then-value-lt0
unfolding tagged
returns-then-value-lt0 c =
    let f = c.ranges.value in
    let b = negative _ f c.if-value-lt0.true in
    let h = rw (below-is _ f b) at c.if-below.false in
    ap (λ (z : ℤ). Some (4294967295 - 2 * nat_abs z)) (below-is _ f b)
    ∙ sym (ap tagged b.is ∙ simp (le-leb _ max_integer h))

pub returns-then-magnitude : goal.returns-then-magnitude
unfolding tagged
returns-then-magnitude c =
    let f = c.ranges.value in
    let b = natural _ f c.if-value-lt0.false in
    let h = rw (magnitude_is _ f b) at c.if-magnitude.true in
    rw b.is (simp (lt-leb _ max_integer h))

pub returns : goal.returns
unfolding tagged
returns c =
    let f = c.ranges.value in
    let b = natural _ f c.if-value-lt0.false in
    let h = rw (magnitude_is _ f b) at c.if-magnitude.false in
    ap (λ (z : ℤ). Some (2 * nat_abs z + 1)) (magnitude_is _ f b)
    ∙ sym (ap tagged b.is ∙ simp (le-leb _ max_integer h))
