-- The order in which objects are met, for heaps of any layout and for object graphs alike. Document 01, "Collection, to the word".
-- A node is a number and has CELLS, one for each of its words; a cell may lead to a node. Nodes are met along the leads of
-- the roots, then along the cells of the nodes met, in the order in which these were met and the cells of each in turn.
use Rattle.std.specs.Prelude.{ℕ, zero, suc, ◌+◌, Bool, false, cond, ◌||◌, List, [], ◌∷◌, ◌++◌, eqb, length, get_or}
use Rattle.std.proofs.Math.Option.{Option, none, some}

-- whether a number stands in a list
unfoldable pub mem : ℕ → List ℕ → Bool
mem x [] = false
mem x (y ∷ ys) = eqb x y || mem x ys

-- one lead: a node met for the first time comes last; met again, or no node: nothing new
unfoldable pub visit : List ℕ → Option ℕ → List ℕ
visit o none = o
visit o (some i) = cond (mem i o) o (o ++ (i ∷ []))

unfoldable pub visits : List ℕ → List (Option ℕ) → List ℕ
visits o [] = o
visits o (l ∷ ls) = visits (visit o l) ls

module _ {C : Type 0} (cells : ℕ → List C) where
  -- the cells of an order's nodes, end to end
  unfoldable pub packed : List ℕ → List C
  packed [] = []
  packed (i ∷ o) = cells i ++ packed o

  -- how many of them stand before those of the node i
  unfoldable pub words_before : List ℕ → ℕ → ℕ
  words_before [] i = 0
  words_before (j ∷ o) i = cond (eqb i j) 0 (length (cells j) + words_before o i)

  module _ (blank : C) (leads : C → Option ℕ) where
    -- the nodes met once the leads R of the roots are visited and p packed cells are passed;
    -- past the last cell stands `blank`, which leads nowhere, so that more steps meet nothing more
    unfoldable pub found : List (Option ℕ) → ℕ → List ℕ
    found R zero = visits [] R
    found R (suc p) = let o = found R p in visit o (leads (get_or (packed o) p blank))
