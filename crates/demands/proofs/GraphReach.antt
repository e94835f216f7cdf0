-- What a collection counts of the graph is what its reachable objects have, whatever list names each once.
use Prim.Native.Nat.{ℕ, zero, suc, ◌+◌, ◌≤◌, ◌<◌}
use native.Mathlib.Omega.{arith}
use mathlib.Core.Path.{◌≡◌, refl, sym, ap, ◌∙◌}
use mathlib.Core.List.{List, [], ◌∷◌, map}
use mathlib.Core.Option.{Option, none, some}
use lib.ListN.{length, get_or, replicate, length-append, length-map, length-replicate, get_or-map}
use Rattle.model.specs.Demand2 as D
use Rattle.model.specs.Demand3 as D3
use Rattle.model.specs.Discovery.{packed}
use Rattle.model.specs.Graph.{null, Value, plain, object, Object, traced, untraced, Graph, nth, root_value, value_leads}
use Rattle.model.specs.Graph.{object_cells, graph_cells, itself, total_words, graph_order, objects_in, objects_of}
use Rattle.model.specs.Graph.{objects_among, graph_counts}
use Rattle.theory.proofs.Counting.{sums_same}
use Rattle.theory.proofs.Discovery.{Reach, root, cell, found_distinct, found_reach, reach_found}
use Rattle.demands.proofs.GraphWords.{below, in_below, total_packed}
use Rattle.theory.proofs.Lists.{get_d_same}
use Rattle.theory.proofs.Members.{In, Distinct, distinct_once, mem_in, in_mem}
use Rattle.theory.proofs.Packed.{packed-within}
use Rattle.theory.proofs.Values.{some_same}
use Rattle.theory.proofs.Visits.{no_some}

lead-value : (v : Value) (i : ℕ) → value_leads v ≡ some i → v ≡ object i
lead-value (plain p) i e = absurd (no_some i e)
lead-value (object j) i e = ap object (some_same j i e)

cell_value : (b : Object) (k j : ℕ) → get_or (object_cells b) k none ≡ some j
    → (vs : List Value) × (b ≡ traced vs) × ((f : ℕ) × (get_or vs f (plain null) ≡ object j))
cell_value (traced vs) zero j e = absurd (no_some j e)
cell_value (traced vs) (suc f) j e =
    (vs, refl, (f, lead-value (get_or vs f (plain null)) j (sym (get_or-map value_leads vs f (plain null)) ∙ e)))
cell_value (untraced ws) zero j e = absurd (no_some j e)
cell_value (untraced ws) (suc f) j e = absurd (no_some j (sym (get_d_same {A = Option ℕ} (length ws) f none) ∙ e))

cells-size : (b : Object) → length (object_cells b) ≡ D3.graph_size b
cells-size (traced vs) = let z = length-map vs value_leads in omega arith
cells-size (untraced ws) =
    let z : length {A = Option ℕ} (replicate (length ws) none) ≡ length ws = length-replicate (length ws) none in
    omega arith

module _ (g : Graph) where
  abbrev ReachedByCells : ℕ → Type 0
  ReachedByCells = Reach (graph_cells g) none itself (map value_leads g.roots)

  reached_reach : (i : ℕ) → ReachedByCells i → D3.Reachable g i
  reached_reach i (root k e) =
      D3.from_root k (lead-value (root_value g k) i (sym (get_or-map value_leads g.roots k (plain null)) ∙ e))
  reached_reach j (cell k {i} r e) =
      let c = cell_value (nth g i) k j e in
      D3.from_field c.2.0 c.0 (reached_reach i r) c.1 c.2.1

  reach_reached : (i : ℕ) → D3.Reachable g i → ReachedByCells i
  reach_reached j (D3.from_root r {i} e) = root r (get_or-map value_leads g.roots r (plain null) ∙ ap value_leads e)
  reach_reached k (D3.from_field f {i} {j} vs r e v) =
      cell (suc f) (reach_reached i r)
      (ap (λ b. get_or (object_cells b) (suc f) none) e ∙ get_or-map value_leads vs f (plain null) ∙ ap value_leads v)

  words-sizes : (o : List ℕ) → length (packed (graph_cells g) o) ≡ D3.graph_sizes g o
  unfolding packed
  words-sizes [] = refl
  words-sizes (i ∷ o) =
      let a = length-append (object_cells (nth g i)) (packed (graph_cells g) o) in
      let b = cells-size (nth g i) in
      let c = words-sizes o in
      omega arith

  -- where what is reachable is one of the graph's objects
  module _ (known : (i : ℕ) → D3.Reachable g i → i < length g.objects) where
    abbrev whole : List ℕ
    whole = graph_order g (total_words g.objects)

    found-listed : (i : ℕ) → In i whole → D3.Reachable g i
    unfolding graph_order
    found-listed i m =
        reached_reach i
        (found_reach (graph_cells g) none itself (map value_leads g.roots) refl (total_words g.objects) i m)

    whole_distinct : Distinct whole
    unfolding graph_order
    whole_distinct = found_distinct (graph_cells g) none itself (map value_leads g.roots) (total_words g.objects)

    whole-fits : length (packed (graph_cells g) whole) ≤ total_words g.objects
    whole-fits =
        let w = packed-within (graph_cells g) whole (below (length g.objects)) whole_distinct (λ x i.
        in_below x (length g.objects) (known x (found-listed x i))) in
        omega (arith, total_packed g.objects)

    listed_found : (i : ℕ) → D3.Reachable g i → In i whole
    unfolding graph_order
    listed_found i r =
        reach_found (graph_cells g) none itself (map value_leads g.roots) refl (total_words g.objects) whole-fits i
        (reach_reached i r)

    pub lists-whole : D.Lists (D3.Reachable g) whole
    lists-whole = record {
      once = distinct_once whole whole_distinct;
      listed = λ i m. found-listed i (mem_in i whole m);
      reached = λ i r. in_mem i whole (listed_found i r);
    }

    -- so it is the same of every list of exactly the reachable objects
    pub live-listed : (o : List ℕ) → D.Lists (D3.Reachable g) o → (graph_counts g).live ≡ D3.graph_sizes g o
    unfolding graph_counts
    live-listed o l =
        words-sizes whole
        ∙ sums_same (D3.graph_sizes g) (λ i. D3.graph_size (nth g i)) refl (λ i x. refl) whole o lists-whole l

    pub objects-listed : (o : List ℕ) → D.Lists (D3.Reachable g) o → (graph_counts g).objects ≡ length o
    unfolding graph_counts
    objects-listed o l = sums_same length (λ i. 1) refl (λ i x. omega arith) whole o lists-whole l

    pub addresses-listed : (o : List ℕ) → D.Lists (D3.Reachable g) o
        → (graph_counts g).addresses ≡ objects_in g.roots + objects_among g o
    unfolding graph_counts objects_among
    addresses-listed o l =
        ap (λ (n : ℕ). objects_in g.roots + n)
        (sums_same (objects_among g) (λ i. objects_of (nth g i)) refl (λ i x. refl) whole o lists-whole l)
