-- `words::tuple::Tuple::is_traced` meets its contract.
use Rattle.std.proofs.Common.{sym}
use Rattle.model.specs.Headers.{tuple}
use Rattle.words.proofs.TupleLaws.{traced-below}
use Rattle.words.proofs.tuple.Tuple.is_traced.Goals as goal

pub returns : goal.returns
unfolding tuple
returns c = sym (traced-below c.args.header)
