-- `writer_spelling::numerals::store_digits` meets its contract, by a digit stored.
use mathlib.Core.Path.{◌∙◌}
use Rattle.writer_spelling.proofs.Digits.{stored, all-stored}
use Rattle.writer_spelling.proofs.numerals.store_digits.Goals as goal

pub loop-place-preserved : goal.loop-place-preserved
loop-place-preserved c =
    let l = c.loop-place in
    stored l.text c.args.at l.place l.rest c.loop-place-test.true ∙ l.invariant

pub returns : goal.returns
returns c =
    let l = c.loop-place in
    let a = c.args in
    all-stored a.text.now l.text a.at l.place a.count l.rest a.number c.loop-place-test.false l.invariant
