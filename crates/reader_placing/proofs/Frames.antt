-- Placing changes only the fields that it fills and the words from the free index on.
use Prim.Native.Nat.{ℕ, ◌+◌, ◌*◌, ◌≤◌, ◌<◌}
use native.Mathlib.Omega.{arith}
use mathlib.Core.Path.{◌≡◌, refl, ◌∙◌}
use mathlib.Core.List.{List}
use lib.ListN.{length, drop, set, length-append, length-set}
use lib.Seq.{drop-set-lt}
use Rattle.model.specs.Values.{tag}
use Rattle.model.specs.Trees.{Forest, end, leaf_then, node_then, Tree, leaf, node, count, forest_words, tree_words}
use Rattle.reader_placing.specs.Counting.{forest_counts, tree_counts}
use Rattle.reader_placing.specs.Placing.{placed_in, object_at, value_in}

-- each tuple takes a word at least
pub counts-few : (f : Forest) → length (forest_counts f) ≤ forest_words f
unfolding forest_counts forest_words
counts-few end = omega arith
counts-few (leaf_then v f) = counts-few f
counts-few (node_then g f) =
    omega (arith, length-append (forest_counts g) (forest_counts f), counts-few g, counts-few f)

pub tree-counts-few : (t : Tree) → length (tree_counts t) ≤ tree_words t
tree-counts-few (leaf v) = omega arith
tree-counts-few (node g) = omega (arith, counts-few g)

pub length-placed : (f : Forest) (i k : ℕ) (H : List ℕ) → length (placed_in f i k H) ≡ length H
unfolding placed_in
length-placed end i k H = refl
length-placed (leaf_then v f) i k H = length-placed f (i + 1) k (set H i (tag v)) ∙ length-set H i (tag v)
length-placed (node_then g f) i k H =
    length-placed f (i + 1) (k + (count g + 1 + forest_words g)) _
    ∙ length-placed g (k + 1) (k + 1 + count g) _
    ∙ length-set (set H i (4 * k)) k (2 * count g) ∙ length-set H i (4 * k)

pub length-object : (g : Forest) (k : ℕ) (H : List ℕ) → length (object_at g k H) ≡ length H
length-object g k H = length-placed g (k + 1) (k + 1 + count g) _ ∙ length-set H k (2 * count g)

pub length-value : (t : Tree) (i k : ℕ) (H : List ℕ) → length (value_in t i k H) ≡ length H
length-value (leaf v) i k H = length-set H i (tag v)
length-value (node g) i k H = length-object g k (set H i (4 * k)) ∙ length-set H i (4 * k)

pub drop-placed : (j : ℕ) (f : Forest) (i k : ℕ) (H : List ℕ) → i + count f ≤ j → k + forest_words f ≤ j
    → drop j (placed_in f i k H) ≡ drop j H
unfolding placed_in count forest_words
drop-placed j end i k H l m = refl
drop-placed j (leaf_then v f) i k H l m =
    drop-placed j f (i + 1) k (set H i (tag v)) (omega arith) (omega arith) ∙ drop-set-lt j H i (tag v) (omega arith)
drop-placed j (node_then g f) i k H l m =
    drop-placed j f (i + 1) (k + (count g + 1 + forest_words g)) _ (omega arith) (omega arith)
    ∙ drop-placed j g (k + 1) (k + 1 + count g) _ (omega arith) (omega arith)
    ∙ drop-set-lt j (set H i (4 * k)) k (2 * count g) (omega arith) ∙ drop-set-lt j H i (4 * k) (omega arith)

pub drop-value : (j : ℕ) (t : Tree) (i k : ℕ) (H : List ℕ) → i < j → k + tree_words t ≤ j → drop j (value_in t i k H) ≡ drop j H
drop-value j (leaf v) i k H l m = drop-set-lt j H i (tag v) l
drop-value j (node g) i k H l m =
    drop-placed j g (k + 1) (k + 1 + count g) _ (omega arith) (omega arith)
    ∙ drop-set-lt j (set H i (4 * k)) k (2 * count g) (omega arith) ∙ drop-set-lt j H i (4 * k) l
