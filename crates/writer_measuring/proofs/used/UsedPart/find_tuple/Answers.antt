-- `UsedPart::find_tuple` meets its contract.
use native.Mathlib.Omega.{arith}
use Prim.Native.Nat.{ℕ}
use mathlib.Core.Path.{sym, ap, ◌∙◌}
use Rattle.std.specs.Prelude.{Ok, Err}
use Rattle.model.specs.Words.{at}
use Rattle.model.specs.Headers.{tuple}
use Rattle.model.specs.Objects.{is_traced}
use Rattle.writer_measuring.specs.Forms.{tuple_named}
use Rattle.writer_measuring.proofs.Sorts.{named_inside}
use Rattle.writer_measuring.proofs.used.UsedPart.find_tuple.Goals as goal

pub returns-then-not-names : goal.returns-then-not-names
unfolding tuple_named
returns-then-not-names c = simp (sym c.names.ensures ∙ c.if-not-names.true) (ap Err c.why_unnamed.ensures)

pub bounds-self-object : goal.bounds-self-object
bounds-self-object c =
    let u = c.args.self.now in
    let within = u.within in
    omega (
      arith,
      within,
      named_inside u.first u.free u.heap.now c.args.word _ c.index_of-object.ensures (sym c.names.ensures ∙ c.if-not-names.false),
    )

pub returns-then-is_traced : goal.returns-then-is_traced
unfolding tuple_named
returns-then-is_traced c =
    simp (
      sym c.names.ensures ∙ c.if-not-names.false,
      ap (λ (i : ℕ). is_traced (tuple.kind_of (at c.args.self.now.heap.now i))) (sym c.index_of-object.ensures)
          ∙ (sym c.is_traced.ensures ∙ c.if-is_traced.true),
    )
    (ap Ok c.index_of-object.ensures)

pub returns : goal.returns
unfolding tuple_named
returns c =
    simp (
      sym c.names.ensures ∙ c.if-not-names.false,
      ap (λ (i : ℕ). is_traced (tuple.kind_of (at c.args.self.now.heap.now i))) (sym c.index_of-object.ensures)
          ∙ (sym c.is_traced.ensures ∙ c.if-is_traced.false),
    )
