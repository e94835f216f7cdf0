-- `words::tuple::Tuple::address_of` meets its contract.
use Rattle.std.proofs.Common.{sym, ap, ◌∙◌, add-zero}
use Rattle.model.specs.Headers.{tuple}
use Rattle.model.specs.Words.{address_of}
use Rattle.words.proofs.tuple.Tuple.address_of.Goals as goal

pub returns : goal.returns
unfolding tuple
returns c = c.address_of.ensures ∙ ap address_of (sym (add-zero _))
