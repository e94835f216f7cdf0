-- What a text stands for: a tree of integers and tuples, and the text of one. Document 02, Q-2.
-- A forest is the values of a tuple side by side, the first of them first.
use Rattle.std.specs.Prelude.{ℕ, zero, suc, ◌+◌, ◌≡◌, true, List, [], ◌∷◌, ℤ}
use Rattle.model.specs.Values.{in_range}
use Rattle.model.specs.Texts.{integer_text, enclosed}

pub data Forest : Type 0 where
  end : Forest
  leaf_then : ℤ → Forest → Forest
  node_then : Forest → Forest → Forest

pub data Tree : Type 0 where
  leaf : ℤ → Tree
  node : Forest → Tree

abbrev pub then : Tree → Forest → Forest
then (leaf v) f = leaf_then v f
then (node g) f = node_then g f

-- the values of a tuple
unfoldable pub count : Forest → ℕ
count end = 0
count (leaf_then v f) = count f + 1
count (node_then g f) = count f + 1

-- n + 1 words for each tuple
unfoldable pub forest_words : Forest → ℕ
forest_words end = 0
forest_words (leaf_then v f) = forest_words f
forest_words (node_then g f) = count g + 1 + forest_words g + forest_words f

abbrev pub tree_words : Tree → ℕ
tree_words (leaf v) = 0
tree_words (node g) = count g + 1 + forest_words g

-- the texts of the values, and the text of a tree
unfoldable pub texts : Forest → List (List ℕ)
texts end = []
texts (leaf_then v f) = integer_text v ∷ texts f
texts (node_then g f) = enclosed (λ b. b) (texts g) ∷ texts f

abbrev pub tree_text : Tree → List ℕ
tree_text (leaf v) = integer_text v
tree_text (node g) = enclosed (λ b. b) (texts g)

-- every integer lies in its range, and tuples nest at most d deep
abbrev pub ForestFits : ℕ → Forest → Type 0
ForestFits d end = Unit {0}
ForestFits d (leaf_then v f) = (in_range v ≡ true) × ForestFits d f
ForestFits zero (node_then g f) = ⊥
ForestFits (suc d) (node_then g f) = ForestFits d g × ForestFits (suc d) f

abbrev pub TreeFits : ℕ → Tree → Type 0
TreeFits d (leaf v) = in_range v ≡ true
TreeFits zero (node g) = ⊥
TreeFits (suc d) (node g) = ForestFits d g
