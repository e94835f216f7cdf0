-- Values side by side: one more of them, and what they count.
use Prim.Native.Nat.{ℕ, ◌+◌, ◌≤◌}
use native.Mathlib.Omega.{arith}
use mathlib.Core.Path.{◌≡◌, refl}
use mathlib.Core.Bool.{false}
use mathlib.Core.List.{List, [], ◌∷◌, ◌++◌}
use Rattle.model.specs.Trees.{Forest, end, Tree, leaf, node, then, count, forest_words, tree_words}
use Rattle.model.specs.Reading.{forest_of, none_yet}

count-then : (x : Tree) (f : Forest) → count (then x f) ≡ count f + 1
unfolding count
count-then (leaf v) f = refl
count-then (node g) f = refl

words-then : (x : Tree) (f : Forest) → forest_words (then x f) ≡ tree_words x + forest_words f
unfolding forest_words
words-then (leaf v) f = omega arith
words-then (node g) f = refl

-- a value behind them
pub count-more : (ts : List Tree) (x : Tree) → count (forest_of (ts ++ (x ∷ []))) ≡ count (forest_of ts) + 1
unfolding count
count-more [] x = count-then x end
count-more (y ∷ ts) x =
    omega (arith, count-more ts x, count-then y (forest_of ts), count-then y (forest_of (ts ++ (x ∷ []))))

pub words_more : (ts : List Tree) (x : Tree) → forest_words (forest_of (ts ++ (x ∷ []))) ≡ forest_words (forest_of ts) + tree_words x
unfolding forest_words
words_more [] x = omega (arith, words-then x end)
words_more (y ∷ ts) x =
    omega (arith, words_more ts x, words-then y (forest_of ts), words-then y (forest_of (ts ++ (x ∷ []))))

-- none, and one alone
pub none-counts : (count end ≡ 0) × (forest_words end ≡ 0)
unfolding count forest_words
none-counts = (refl, refl)

pub one-words : (x : Tree) → tree_words (node (then x end)) ≡ tree_words x + 2
unfolding count forest_words
one-words x = omega (arith, count-then x end, words-then x end)

-- whether there is one
pub some_yet : (ts : List Tree) → none_yet ts ≡ false → 1 ≤ count (forest_of ts)
some_yet [] e = absurd (let z : ◌≡◌ {A = ℕ} 0 1 = cc in omega arith)
some_yet (y ∷ ts) e = omega (arith, count-then y (forest_of ts))

pub not-none_yet : (ts : List Tree) → 1 ≤ count (forest_of ts) → none_yet ts ≡ false
unfolding count
not-none_yet [] h = absurd (omega arith)
not-none_yet (y ∷ ts) h = refl
