-- `words::tuple::Tuple::unmark` meets its contract: a mark is odd, so that it is not 0.
use Rattle.std.proofs.Common.{◌≡◌, ◌%◌, refl, arith}
use Rattle.model.specs.Headers.{tuple}
use borrow.Author.Tests.{eqb-false}
use Rattle.words.proofs.tuple.Tuple.unmark.Goals as goal

pub overflow_sub-result : goal.overflow_sub-result
unfolding tuple
overflow_sub-result c = let e : c.args.mark % 2 ≡ 0 → ⊥ = eqb-false (c.args.mark % 2) 0 c.requires in omega arith

pub returns : goal.returns
unfolding tuple
returns c = refl
