-- `words::tuple::Tuple::index_of` meets its contract.
use Rattle.model.specs.Headers.{tuple}
use Rattle.std.proofs.Common.{arith}
use Rattle.words.proofs.tuple.Tuple.index_of.Goals as goal

pub returns : goal.returns
unfolding tuple
returns c = omega (arith, c.index_of.ensures)
