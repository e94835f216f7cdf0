-- `words::tuple::Tuple::header` meets its contract, kind by kind.
use Rattle.std.proofs.Common.{sym, refl, zero-add}
use Rattle.model.specs.Headers.{tuple}
use Rattle.words.proofs.tuple.Tuple.header.Goals as goal

pub returns-in-Traced : goal.returns-in-Traced
unfolding tuple
returns-in-Traced c = rw c.in-Traced.is (sym (zero-add _))

pub returns-in-Untraced : goal.returns-in-Untraced
unfolding tuple
returns-in-Untraced c = rw c.in-Untraced.is refl
