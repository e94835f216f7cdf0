-- `writer_spelling::spell_none` meets its contract, by its two bytes.
use Rattle.writer_spelling.proofs.Steps.{two_fit}
use Rattle.writer_spelling.proofs.spell_none.Goals as goal

pub returns : goal.returns
returns c = two_fit c.args.at c.args.text.now 40 41 c.requires
