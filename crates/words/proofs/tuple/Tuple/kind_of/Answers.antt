-- `words::tuple::Tuple::kind_of` meets its contract.
use Rattle.model.specs.Headers.{tuple}
use Rattle.std.proofs.Common.{le-ltb, lt-ltb}
use Rattle.words.proofs.tuple.Tuple.kind_of.Goals as goal

pub returns-then-header-lt-UNTRACED : goal.returns-then-header-lt-UNTRACED
unfolding tuple
returns-then-header-lt-UNTRACED c = simp (lt-ltb _ _ c.if-header-lt-UNTRACED.true)

pub returns : goal.returns
unfolding tuple
returns c = simp (le-ltb _ _ c.if-header-lt-UNTRACED.false)
