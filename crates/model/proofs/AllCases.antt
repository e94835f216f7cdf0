-- The tables of cases and limits, together. This crate has no other proof: a wrong definition is refused by a value that
-- comes out wrong, and not by a proof that no longer fits.
use Rattle.std.specs.Prelude.{Ok}
use mathlib.Core.Path.{◌≡◌}
use mathlib.Core.List.{[], ◌∷◌, map}
use Rattle.model.specs.declared.Answer.TheVariants as Says
use Rattle.model.specs.Worked as Worked
use Rattle.model.specs.Worked.{ran, expected}
use Rattle.model.specs.CodeWords as CodeWords
use Rattle.model.specs.TextCases as TextCases
use Rattle.model.specs.Graph.{graph_counts}
use Rattle.model.specs.Counting as Counting
use Rattle.model.specs.Headers.{tuple}
use Rattle.model.specs.Images.{image}
use Rattle.model.specs.Repeating as Repeating
use Rattle.model.specs.Unnamed as Unnamed
use Rattle.model.specs.Unsound as Unsound
use Rattle.model.specs.EachCall as EachCall
use Rattle.model.specs.Edges as Edges

-- the papers' cases, each clause of "names an object" and of "sound" broken alone, each call, and each limit
pub record AllCases : Type 0 where
  pub worked : map ran Worked.cases ≡ map expected Worked.cases
  pub begun : (Worked.begun).answer ≡ Ok Says.Done
  pub coded : map ran CodeWords.codes ≡ map expected CodeWords.codes
  pub spelt : map ran TextCases.writer ≡ map expected TextCases.writer
  pub seen : map ran TextCases.reader ≡ map expected TextCases.reader
  pub counted : map ran Counting.countings ≡ map expected Counting.countings
  pub graph_counted : graph_counts Counting.shared_graph ≡ Counting.shared_counts
  pub repeated : map ran Repeating.repetitions ≡ map expected Repeating.repetitions
  pub imaged : map (image tuple) (Counting.shared ∷ Counting.shared' ∷ Repeating.shared'' ∷ [])
      ≡ Repeating.uncollected_image ∷ Repeating.shared_image ∷ Repeating.shared_image ∷ []
  pub unnamed : map ran Unnamed.namings ≡ map expected Unnamed.namings
  pub unsound : map ran Unsound.judgements ≡ map expected Unsound.judgements
  pub called : map ran EachCall.calls ≡ map expected EachCall.calls
  pub kept : map (λ e. e.computed) Edges.edges ≡ map (λ e. e.expected) Edges.edges

pub all-cases : AllCases
all-cases = record {
  worked = Worked.worked;
  begun = Worked.fresh_says;
  coded = CodeWords.coded;
  spelt = TextCases.spelt;
  seen = TextCases.seen;
  counted = Counting.counted;
  graph_counted = Counting.graph_counted;
  repeated = Repeating.repeated;
  imaged = Repeating.imaged;
  unnamed = Unnamed.unnamed;
  unsound = Unsound.unsound;
  called = EachCall.called;
  kept = Edges.kept;
}
