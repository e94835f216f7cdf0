-- What the calls read of the roots, and the changes that they make. Document 01, "The calls"; document 02, Q-2.
use Rattle.std.specs.Prelude.{ℕ, ◌+◌, ◌-◌, Bool, ◌∷◌, leb, length, set, replicate}
use Rattle.std.proofs.lemmas.List.Edits.{sets}
use Rattle.model.specs.declared.Kind.{Kind}
use Rattle.model.specs.declared.Kind.TheVariants.{Traced}
use Rattle.model.specs.Words.{State, with_heap, with_roots, with_free, at, half_words, first_word, free}
use Rattle.model.specs.Headers.{Layout}
use Rattle.model.specs.Objects.{address}
use Rattle.model.specs.Values.{tag}
use Rattle.model.specs.Trees.{Forest, end, leaf_then, node_then, Tree, leaf, node, count}

-- a root number that is not below the number of roots
abbrev pub no_root : State → ℕ → Bool
no_root s r = leb (length s.roots) r

abbrev pub root_word : State → ℕ → ℕ
root_word s r = at s.roots r

abbrev pub with_root : State → ℕ → ℕ → State
with_root s r w = with_roots (set s.roots r w) s

abbrev pub with_word : State → ℕ → ℕ → State
with_word s i w = with_heap (set s.heap i w) s

-- the words that are free in the current half
abbrev pub spare : State → ℕ
spare s = first_word s + half_words s.heap - free s

-- n words fit
abbrev pub fits : ℕ → State → Bool
fits n s = leb n (spare s)

-- a header and n zeros at the free index
abbrev pub appended : Layout → Kind → ℕ → State → State
appended Y k n s =
    with_free s.«record».half (free s + (n + 1))
    (with_heap (sets s.heap (free s) (Y.header k n ∷ replicate n 0)) s)

-- and root r gets the address
unfoldable pub placed : Layout → Kind → ℕ → ℕ → State → State
placed Y k n r s = with_roots (set s.roots r (address Y (free s))) (appended Y k n s)

-- the values of a tuple whose first field's index is i: integers' words, and objects placed where they are met, each with all its
-- words before those that its fields name
unfoldable pub laid : Layout → Forest → ℕ → State → State
laid Y end i s = s
laid Y (leaf_then v f) i s = laid Y f (i + 1) (with_word s i (tag v))
laid Y (node_then g f) i s =
    laid Y f (i + 1) (laid Y g (free s + 1) (with_word (appended Y Traced (count g) s) i (address Y (free s))))

-- root r gets a tree
unfoldable pub planted : Layout → Tree → ℕ → State → State
planted Y (leaf v) r s = with_root s r (tag v)
planted Y (node g) r s = laid Y g (free s + 1) (placed Y Traced (count g) r s)
