-- The counts of a text's tuples, in the order in which the tuples open, and where they are kept.
use Rattle.std.specs.Prelude.{ℕ, ◌+◌, ◌≤◌, ◌≡◌, List, [], ◌∷◌, ◌++◌, length}
use Rattle.std.proofs.lemmas.List.Edits.{sets}
use Rattle.model.specs.Limits.{max_words}
use Rattle.model.specs.Trees.{Forest, end, leaf_then, node_then, Tree, leaf, node, count, tree_text, tree_words, ForestFits}

-- of the tuples among the values of a tuple, and of a tree
unfoldable pub forest_counts : Forest → List ℕ
forest_counts end = []
forest_counts (leaf_then v f) = forest_counts f
forest_counts (node_then g f) = count g ∷ forest_counts g ++ forest_counts f

abbrev pub tree_counts : Tree → List ℕ
tree_counts (leaf v) = []
tree_counts (node g) = count g ∷ forest_counts g

-- a tuple's text whose counts have room in the words before `last`
pub record Countable (H T : List ℕ) (last : ℕ) (g : Forest) : Type 0 where
  pub spelt : T ≡ tree_text (node g)
  pub fits : ForestFits 63 g
  pub few : tree_words (node g) ≤ max_words
  pub room : length (tree_counts (node g)) ≤ last
  pub within : last ≤ length H

-- they stand there, from `slot` on
pub record CountsKept (H : List ℕ) (last : ℕ) (g : Forest) (slot : ℕ) (H' : List ℕ) : Type 0 where
  pub begins : slot + length (tree_counts (node g)) ≡ last
  pub kept : H' ≡ sets H slot (tree_counts (node g))
