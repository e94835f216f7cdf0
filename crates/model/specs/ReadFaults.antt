-- Which bytes are a text, and where reading them goes wrong, as types: document 02's Q-2, apart from `Reading`, which goes byte by byte.
-- Places count bytes from 0.
use Rattle.std.specs.Prelude.{ℕ, ◌+◌, ◌<◌, ◌≡◌, Bool, true, cond, ◌||◌, List, [], ◌∷◌, ◌++◌, eqb, length, take}
use Rattle.model.specs.declared.Refusal.{Refusal}
use Rattle.model.specs.declared.Refusal.TheVariants as Why
use Rattle.model.specs.Words.{at}
use Rattle.model.specs.Texts.{opener, closer, one_closer, max_depth}
use Rattle.model.specs.Trees.{Tree, tree_text, TreeFits}

-- the bytes are the text of a tree that the writer can write
pub record IsText (bs : List ℕ) (t : Tree) : Type 0 where
  pub spelled : bs ≡ tree_text t
  pub fits : TreeFits max_depth t

-- the bytes begin the text of some tree, however deep it is
pub record Begins (bs : List ℕ) : Type 0 where
  pub tree : Tree
  pub depth : ℕ
  pub fits : TreeFits depth tree
  pub rest : List ℕ
  pub spelled : tree_text tree ≡ bs ++ rest

-- they are all of it
pub record Completes (bs : List ℕ) : Type 0 where
  pub tree : Tree
  pub depth : ℕ
  pub fits : TreeFits depth tree
  pub spelled : bs ≡ tree_text tree

-- "(" and "{"; ")" and "}"
abbrev pub opens : ℕ → Bool
opens b = eqb b opener || eqb b 123

abbrev pub closes : ℕ → Bool
closes b = eqb b closer || eqb b one_closer

-- how many of the bytes are such
abbrev pub how_many : (ℕ → Bool) → List ℕ → ℕ
how_many p [] = 0
how_many p (b ∷ bs) = cond (p b) 1 0 + how_many p bs

-- a fault of the reader at a place
pub data ReadFault (bs : List ℕ) : ℕ → Refusal → Type 0 where
  -- no text begins with the bytes up to this one
  breach : (p : ℕ) → p < length bs → (Begins (take (p + 1) bs) → ⊥) → ReadFault bs p Why.Value
  -- the end, where they are no text
  cut : (Completes bs → ⊥) → ReadFault bs (length bs) Why.Value
  -- a tuple is opened where 64 stand open
  deep : (p : ℕ) → p < length bs → opens (at bs p) ≡ true
      → how_many opens (take p bs) ≡ how_many closes (take p bs) + max_depth → ReadFault bs p Why.Deep
