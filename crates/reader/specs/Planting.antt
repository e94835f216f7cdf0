-- What planting a tuple's text asks, and what is left to do of a read once its words do not fit.
use Rattle.std.specs.Prelude.{ℕ, ◌+◌, ◌≤◌, ◌<◌, ◌≡◌, not, List, leb, length}
use Rattle.model.specs.declared.Refusal.TheVariants as Why
use Rattle.model.specs.declared.Answer.TheVariants as Says
use Rattle.model.specs.Limits.{max_words}
use Rattle.model.specs.Words.{State, free}
use Rattle.model.specs.Headers.{Layout}
use Rattle.model.specs.Soundness.{sound}
use Rattle.model.specs.Collection.{collected}
use Rattle.model.specs.Trees.{Forest, node, tree_words}
use Rattle.model.specs.Reading.{tree, parsed}
use Rattle.model.specs.Answers.{Outcome, says, refuse}
use Rattle.model.specs.Changes.{spare, planted}

-- a text is a tuple's, which takes so many words
pub record Stands (T : List ℕ) (words : ℕ) (g : Forest) : Type 0 where
  pub read : parsed T ≡ tree (node g)
  pub filled : words ≡ tree_words (node g)

pub record MayPlant (s : State) (to words : ℕ) : Type 0 where
  pub root : to < length s.roots
  pub room : free s + words ≤ length s.heap
  pub most : length s.heap ≤ max_words

-- the collection, and another try
unfoldable pub retried : Layout → Forest → ℕ → State → Outcome State
retried Y g to s =
    refuse (not (sound Y s)) Why.Damaged s
    (refuse (not (leb (tree_words (node g)) (spare (collected Y s)))) Why.Room (collected Y s)
    (says Says.Done (planted Y (node g) to (collected Y s))))
