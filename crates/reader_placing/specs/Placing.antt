-- Where the objects of a text go, and what the readers of a value and of a tuple are lent and leave.
-- `model` says the same of states, with zeros in each new object; the law that joins the two is in proofs/.
use Rattle.std.specs.Prelude.{ℕ, ◌+◌, ◌*◌, ◌≤◌, ◌<◌, ◌≡◌, cond, List, ◌++◌, eqb, length, drop, set}
use Rattle.model.specs.Limits.{max_words}
use Rattle.model.specs.Values.{tag}
use Rattle.model.specs.Trees.{Forest, end, leaf_then, node_then, Tree, leaf, node, count, forest_words, tree_words, tree_text, ForestFits, TreeFits}
use Rattle.reader_placing.specs.Numerals.{PartAt}
use Rattle.reader_placing.specs.Counting.{tree_counts}

-- the values of a tuple into the fields from i on, and their objects from k on
unfoldable pub placed_in : Forest → ℕ → ℕ → List ℕ → List ℕ
placed_in end i k H = H
placed_in (leaf_then v f) i k H = placed_in f (i + 1) k (set H i (tag v))
placed_in (node_then g f) i k H =
    placed_in f (i + 1) (k + (count g + 1 + forest_words g))
    (placed_in g (k + 1) (k + 1 + count g) (set (set H i (4 * k)) k (2 * count g)))

-- a tuple: its header at k, and its values
abbrev pub object_at : Forest → ℕ → List ℕ → List ℕ
object_at g k H = placed_in g (k + 1) (k + 1 + count g) (set H k (2 * count g))

-- a value into field i
abbrev pub value_in : Tree → ℕ → ℕ → List ℕ → List ℕ
value_in (leaf v) i k H = set H i (tag v)
value_in (node g) i k H = object_at g k (set H i (4 * k))

abbrev pub opener_width : ℕ → ℕ
opener_width n = cond (eqb n 1) 3 1

-- the counts of a tree stand from `slot` on, and its words from `free` on end at or before the counts that follow
pub record Room (H : List ℕ) (free slot : ℕ) (cs : List ℕ) (words : ℕ) : Type 0 where
  pub more : List ℕ
  pub told : drop slot H ≡ cs ++ more
  pub within : slot + length cs ≤ length H
  pub apart : free + words ≤ slot + length cs
  pub most : length H ≤ max_words

-- a tuple's text at a place, its values with d levels left
pub record TupleAt (H T : List ℕ) (at free slot d : ℕ) (g : Forest) : Type 0 where
  pub rest : List ℕ
  pub spelt : drop at T ≡ tree_text (node g) ++ rest
  pub fits : ForestFits d g
  pub room : Room H free slot (tree_counts (node g)) (tree_words (node g))

pub record TupleLaid (H : List ℕ) (at free slot : ℕ) (g : Forest) (at' free' slot' : ℕ) (H' : List ℕ) : Type 0 where
  pub laid : H' ≡ object_at g free H
  pub read : at' ≡ at + length (tree_text (node g))
  pub filled : free' ≡ free + tree_words (node g)
  pub used : slot' ≡ slot + length (tree_counts (node g))

-- a value's text at a place, with d levels left, and a field for its word
pub record ValueAt (H T : List ℕ) (field at free slot d : ℕ) (t : Tree) : Type 0 where
  pub part : PartAt T at (tree_text t)
  pub fits : TreeFits d t
  pub room : Room H free slot (tree_counts t) (tree_words t)
  pub below : field < free

pub record ValueLaid (H : List ℕ) (field at free slot : ℕ) (t : Tree) (at' free' slot' : ℕ) (H' : List ℕ) : Type 0 where
  pub laid : H' ≡ value_in t field free H
  pub read : at' ≡ at + length (tree_text t)
  pub filled : free' ≡ free + tree_words t
  pub used : slot' ≡ slot + length (tree_counts t)
