-- `UsedPart::names` meets its contract, by one law of its five tests.
use Prim.Native.Nat.{ℕ, ◌-◌}
use mathlib.Core.Path.{refl, sym, ap, ◌∙◌}
use lib.Dec.{ltb}
use borrow.Author.Tests.{eq-eqb, ne_eqb, le-leb, lt-leb, lt-ltb, le-ltb}
use Rattle.writer_measuring.proofs.Sorts.{named_tests}
use Rattle.writer_measuring.proofs.used.UsedPart.names.Goals as goal

pub returns-then-word-ne0 : goal.returns-then-word-ne0
returns-then-word-ne0 c = named_tests _ _ _ _ _ refl (ne_eqb _ _ c.if-word-ne0.true) refl refl refl refl

pub returns-then-at-self : goal.returns-then-at-self
returns-then-at-self c =
    named_tests _ _ _ _ _ c.index_of-at.ensures (eq-eqb _ _ c.if-word-ne0.false) (lt-leb _ _ c.if-at-self.true) refl refl refl

pub returns-then-self-at : goal.returns-then-self-at
returns-then-self-at c =
    named_tests _ _ _ _ _ c.index_of-at.ensures (eq-eqb _ _ c.if-word-ne0.false) (le-leb _ _ c.if-at-self.false)
    (le-ltb _ _ c.if-self-at.true) refl refl

pub returns-then-not-is_header : goal.returns-then-not-is_header
returns-then-not-is_header c =
    named_tests _ _ _ _ _ c.index_of-at.ensures (eq-eqb _ _ c.if-word-ne0.false) (le-leb _ _ c.if-at-self.false)
    (lt-ltb _ _ c.if-self-at.false) (sym c.is_header.ensures ∙ c.if-not-is_header.true) refl

pub returns : goal.returns
returns c =
    named_tests _ _ _ _ _ c.index_of-at.ensures (eq-eqb _ _ c.if-word-ne0.false) (le-leb _ _ c.if-at-self.false)
    (lt-ltb _ _ c.if-self-at.false) (sym c.is_header.ensures ∙ c.if-not-is_header.false)
    (ap (λ (n : ℕ). ltb n (c.args.self.now.free - c.index_of-at.result.0)) (sym c.count_of.ensures.is))
