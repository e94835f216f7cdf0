-- `words::tuple::Tuple::is_header` meets its contract.
use Rattle.std.proofs.Common.{refl}
use Rattle.model.specs.Headers.{tuple}
use Rattle.words.proofs.tuple.Tuple.is_header.Goals as goal

pub returns : goal.returns
unfolding tuple
returns c = refl
