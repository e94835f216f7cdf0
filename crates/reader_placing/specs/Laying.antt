-- A text that is laid out in the heap, in the words of `model`.
use Rattle.std.specs.Prelude.{ℕ, ◌+◌, ◌≤◌, ◌≡◌, List, length}
use Rattle.model.specs.declared.Kind.TheVariants.{Traced}
use Rattle.model.specs.Limits.{max_words}
use Rattle.model.specs.Words.{State, with_heap, with_free, free}
use Rattle.model.specs.Headers.{tuple}
use Rattle.model.specs.Trees.{Forest, node, count, tree_text, tree_words, ForestFits}
use Rattle.model.specs.Changes.{appended, laid}

-- a tuple's text, whose words the heap has from an index on
pub record LaysOut (H T : List ℕ) (first words : ℕ) (g : Forest) : Type 0 where
  pub spelt : T ≡ tree_text (node g)
  pub fits : ForestFits 63 g
  pub filled : words ≡ tree_words (node g)
  pub room : first + words ≤ length H
  pub most : length H ≤ max_words

-- the heap H' is left where the tuple was laid out in any state with the heap H and that free index
abbrev pub LaidFrom : List ℕ → ℕ → ℕ → Forest → List ℕ → Type 0
LaidFrom H first words g H' =
    (s : State) → s.heap ≡ H → free s ≡ first
    → with_free s.«record».half (first + words) (with_heap H' s) ≡ laid tuple g (first + 1) (appended tuple Traced (count g) s)
