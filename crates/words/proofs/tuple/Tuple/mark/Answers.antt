-- `words::tuple::Tuple::mark` meets its contract.
use Rattle.std.proofs.Common.{refl}
use Rattle.model.specs.Headers.{tuple}
use Rattle.words.proofs.tuple.Tuple.mark.Goals as goal

pub returns : goal.returns
unfolding tuple
returns c = refl
