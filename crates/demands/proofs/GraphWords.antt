-- The words of all objects of a graph, counted two ways.
use Prim.Native.Nat.{ℕ, zero, suc, ◌+◌, ◌<◌}
use native.Mathlib.Omega.{arith}
use mathlib.Core.Path.{◌≡◌, refl, ap, ◌∙◌}
use mathlib.Core.Logic.{⊎_elim}
use mathlib.Core.List.{List, [], ◌∷◌, ◌++◌, map}
use lib.ListN.{length, get_or, length-append}
use Rattle.model.specs.Collection.{cells}
use Rattle.model.specs.Discovery.{packed}
use Rattle.model.specs.Graph.{Object, traced, object_cells, total_words}
use Rattle.theory.proofs.Members.{In, in-nil, in_tail, in_self, in_cons, in_map, map_in_out}

-- the numbers below n
unfoldable pub below : ℕ → List ℕ
below zero = []
below (suc n) = 0 ∷ map suc (below n)

pub in_below : (x n : ℕ) → x < n → In x (below n)
unfolding below
in_below x zero l = absurd (omega arith)
in_below zero (suc n) l = in_self 0 (map suc (below n))
in_below (suc x) (suc n) l = in_tail (suc x) 0 (map suc (below n)) (in_map suc x (below n) (in_below x n (omega arith)))

pub below_in : (x n : ℕ) → In x (below n) → x < n
unfolding below
below_in x zero i = in-nil x i
below_in x (suc n) i =
    ⊎_elim
    (λ (e : x ≡ 0). omega arith)
    (λ (m : In x (map suc (below n))).
    let t = map_in_out suc x (below n) m in
    let l = below_in t.0 n t.1 in
    let e = t.2 in
    omega arith)
    (in_cons x 0 (map suc (below n)) i)

packed_shift : {C : Type 0} (cells : ℕ → List C) (o : List ℕ) → packed cells (map suc o) ≡ packed (λ i. cells (suc i)) o
unfolding packed
packed_shift cells [] = refl
packed_shift cells (i ∷ o) = ap (λ r. cells (suc i) ++ r) (packed_shift cells o)

pub total_packed : (bs : List Object) → length (packed (λ i. object_cells (get_or bs i (traced []))) (below (length bs))) ≡ total_words bs
unfolding packed below total_words
total_packed [] = refl
total_packed (b ∷ bs) =
    length-append (object_cells b) (packed (λ i. object_cells (get_or (b ∷ bs) i (traced []))) (map suc (below (length bs))))
    ∙ ap (λ z. length (object_cells b) + z)
    (ap length (packed_shift (λ i. object_cells (get_or (b ∷ bs) i (traced []))) (below (length bs))) ∙ total_packed bs)
