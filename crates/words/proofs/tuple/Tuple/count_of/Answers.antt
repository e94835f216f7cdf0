-- `words::tuple::Tuple::count_of` meets its contract.
use Rattle.std.proofs.Common.{refl}
use Rattle.model.specs.Headers.{tuple}
use Rattle.words.proofs.tuple.Tuple.count_of.Goals as goal

pub returns-clause-is : goal.returns-clause-is
unfolding tuple
returns-clause-is c =
    refl
