-- `writer_spelling::spell_lead` meets its contract, by the number of fields and the field's.
use Prim.Native.Nat.{ℕ}
use native.Mathlib.Omega.{arith}
use mathlib.Core.Path.{ap, ◌∙◌}
use mathlib.Core.List.{List, map}
use lib.ListN.{length}
use Rattle.model.specs.Texts.{byte}
use Rattle.writer_spelling.specs.Going.{goes}
use Rattle.writer_spelling.proofs.Steps.{one-fits, three_fit}
use Rattle.writer_spelling.proofs.Leads.{lead-alone, lead-first, lead-other}
use Rattle.writer_spelling.proofs.spell_lead.Goals as goal

pub returns-then-count-eq1 : goal.returns-then-count-eq1
returns-then-count-eq1 c =
    let a = c.args in
    let e = lead-alone a.count a.field c.if-count-eq1.true in
    three_fit a.at a.text.now 123 49 61 (omega (arith, c.requires, ap (λ (bs : List ℕ). length bs) e))
    ∙ ap (λ (bs : List ℕ). goes (map byte bs) a.at a.text.now) e

pub returns-then-field-eq0 : goal.returns-then-field-eq0
returns-then-field-eq0 c =
    let a = c.args in
    let e = lead-first a.count a.field c.if-count-eq1.false c.if-field-eq0.true in
    one-fits a.at a.text.now 40 (omega (arith, c.requires, ap (λ (bs : List ℕ). length bs) e))
    ∙ ap (λ (bs : List ℕ). goes (map byte bs) a.at a.text.now) e

pub returns : goal.returns
returns c =
    let a = c.args in
    let e = lead-other a.count a.field c.if-count-eq1.false c.if-field-eq0.false in
    one-fits a.at a.text.now 44 (omega (arith, c.requires, ap (λ (bs : List ℕ). length bs) e))
    ∙ ap (λ (bs : List ℕ). goes (map byte bs) a.at a.text.now) e
