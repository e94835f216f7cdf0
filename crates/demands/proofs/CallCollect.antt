-- A collection in the heap and in the graph that it stands for: the graph stays, and both count the same.
use Prim.Native.Nat.{ℕ, zero, suc, ◌+◌, ◌≤◌, ◌<◌}
use native.Mathlib.Omega.{arith}
use mathlib.Core.Path.{◌≡◌, refl, sym, ap, ◌∙◌, subst}
use mathlib.Core.Bool.{true}
use mathlib.Core.List.{List, [], ◌∷◌, map}
use mathlib.Core.Option.{Option, none}
use lib.ListN.{length, get_or, replicate, length-map, length-replicate}
use Rattle.model.specs.declared.Call.TheVariants as Ask
use Rattle.model.specs.Calls as Calls
use Rattle.model.specs.Answers.{refuse}
use Rattle.model.specs.Collection.{still, addresses_in, cells, word_leads, cell_leads, order_at, order, live}
use Rattle.model.specs.Collection.{addresses_of, addresses_among, counts, collected}
use Rattle.model.specs.Demand2 as D
use Rattle.model.specs.Discovery.{packed, words_before}
use Rattle.model.specs.Graph.{null, Value, plain, object, Object, traced, untraced, Graph, nth, root_value, value_leads}
use Rattle.model.specs.Graph.{object_cells, graph_cells, itself, total_words, graph_order, objects_in, objects_of}
use Rattle.model.specs.Graph.{objects_among, graph_counts}
use Rattle.model.specs.GraphCalls.{graph_step}
use Rattle.model.specs.Headers.{Layout, Adjacent}
use Rattle.model.specs.Objects.{address, index, field_count, size, field_words}
use Rattle.model.specs.Sessions.{step}
use Rattle.model.specs.Values.{is_address}
use Rattle.model.specs.Words.{State, at, half_words}
use Rattle.theory.proofs.Deciding.{tests_sound}
use Rattle.theory.proofs.DiscoveryAlike.{Along, Inside, packed-sizes, before_along, found_along, found-settled}
use Rattle.theory.proofs.Collected.{live-is}
use Rattle.theory.proofs.CollectedSound.{new_sound}
use Rattle.demands.proofs.Demand2.{collects}
use Rattle.theory.proofs.Discovery.{found_distinct}
use Rattle.demands.proofs.GraphWords.{below, in_below, total_packed}
use Rattle.theory.proofs.Lists.{get_d_map, get_d_same}
use Rattle.theory.proofs.Members.{In, in_tail, in_self, in_map, map_in_out, mem_in, in_mem}
use Rattle.theory.proofs.Objects.{index-address, cells-length, field_at, fields-length, field_cell_lem}
use Rattle.theory.proofs.Order.{header_tile, free_in, order-fits}
use Rattle.theory.proofs.Packed.{packed-within}
use Rattle.model.specs.Represents.{Encodes, Holds, Represents}
use Rattle.demands.proofs.Represents.{parts, plain_no_address, Agrees, header-is-address}
use Rattle.demands.proofs.Same.{same-counts}
use Rattle.theory.proofs.Shape.{unshaped}
use Rattle.theory.proofs.Soundness.{sound-whole}
use Rattle.theory.proofs.WordSorts.{became_stays}

module _ (Y : Layout) (near : Adjacent Y) (s : State) (g : Graph) (m : Represents Y s g) where
  abbrev A : Option ℕ → Option ℕ → Type 0
  A = Along m.kept m.header_of m.apart

  rep_along : (v : Value) (w : ℕ) → Encodes Y m.kept m.header_of v w → A (value_leads v) (word_leads Y w)
  unfolding word_leads
  rep_along (plain p) w e = rw (e.1, plain_no_address p e.0)
  rep_along (object x) w e =
      (e.0, rw (e.1, header-is-address Y s (parts m) (m.header_of x) (m.head x e.0) near, index-address Y (m.header_of x)))

  -- the cells of an object, in both
  object-size : (b : Object) (i : ℕ) → i + size Y s.heap i ≤ length s.heap
      → Holds Y m.kept m.header_of s.heap b i
      → length (cells Y s.heap i) ≡ length (object_cells b)
  object-size (traced vs) i l h =
      let c = cells-length Y s.heap i l in let z = length-map vs value_leads in let y = h.1 in omega arith
  object-size (untraced ws) i l h =
      let c = cells-length Y s.heap i l in
      let z : length {A = Option ℕ} (replicate (length ws) none) ≡ length ws = length-replicate (length ws) none in
      let y = h.1 in
      omega arith

  object_alike : (b : Object) (i k : ℕ) → i + size Y s.heap i ≤ length s.heap
      → Holds Y m.kept m.header_of s.heap b i
      → k < length (object_cells b)
      → A (itself (get_or (object_cells b) k none)) (cell_leads Y (get_or (cells Y s.heap i) k (still 0)))
  object_alike (traced vs) i zero l h u = refl
  object_alike (traced vs) i (suc f) l h u =
      let n : f < length vs = let z = length-map vs value_leads in omega arith in
      rw (field_cell_lem Y s.heap i f l (let y = h.1 in omega arith), h.0, get_d_map value_leads vs f (plain null) none n)
      (rep_along (get_or vs f (plain null)) (at s.heap (i + 1 + f)) (h.2 f n))
  object_alike (untraced ws) i zero l h u = refl
  object_alike (untraced ws) i (suc f) l h u =
      let y = h.1 in
      let z : length {A = Option ℕ} (replicate (length ws) none) ≡ length ws = length-replicate (length ws) none in
      let n : f < field_count Y s.heap i = omega arith in
      rw (get_d_same {A = Option ℕ} (length ws) f none, field_cell_lem Y s.heap i f l n, h.0) refl

  within : (x : ℕ) → In x m.kept → m.header_of x + size Y s.heap (m.header_of x) ≤ length s.heap
  within x i = let t = header_tile Y s (parts m) (m.header_of x) (m.head x i) in omega (arith, free_in Y s (parts m))

  roots-count : length (map value_leads g.roots) ≡ length (map (word_leads Y) s.roots)
  roots-count = length-map g.roots value_leads ∙ sym m.count ∙ sym (length-map s.roots (word_leads Y))

  roots_along : (k : ℕ) → k < length (map value_leads g.roots)
      → A (get_or (map value_leads g.roots) k none) (get_or (map (word_leads Y) s.roots) k none)
  roots_along k l =
      let n : k < length g.roots = let z = length-map g.roots value_leads in omega arith in
      rw (get_d_map value_leads g.roots k (plain null) none n, get_d_map (word_leads Y) s.roots k 0 none (omega (arith, m.count)))
      (rep_along (root_value g k) (at s.roots k) (m.roots k n))

  -- both are discovered alike
  pub order_along : (p : ℕ) → (order_at Y s p ≡ map m.header_of (graph_order g p))
      × Inside m.kept m.header_of m.apart (graph_order g p)
  unfolding order_at graph_order
  order_along p =
      found_along m.kept m.header_of m.apart (graph_cells g) none itself (cells Y s.heap) (still 0)
      (cell_leads Y) refl refl
      (λ x i. object-size (nth g x) (m.header_of x) (within x i) (m.holds x i))
      (λ x k i l. object_alike (nth g x) (m.header_of x) k (within x i) (m.holds x i) l)
      (map value_leads g.roots) (map (word_leads Y) s.roots) roots-count roots_along p

  words_along : (p : ℕ)
      → length (packed (cells Y s.heap) (order_at Y s p)) ≡ length (packed (graph_cells g) (graph_order g p))
  words_along p =
      rw (order_along p).0
      (packed-sizes m.kept m.header_of m.apart (graph_cells g) none itself (cells Y s.heap) (still 0) (cell_leads Y) refl refl
      (λ x i. object-size (nth g x) (m.header_of x) (within x i) (m.holds x i))
      (λ x k i l. object_alike (nth g x) (m.header_of x) k (within x i) (m.holds x i) l)
      (graph_order g p) (order_along p).1)

  pub graph-fits : (p : ℕ) → length (packed (graph_cells g) (graph_order g p)) ≤ total_words g.objects
  unfolding graph_order
  graph-fits p =
      let w = packed-within (graph_cells g) (graph_order g p) (below (length g.objects))
      (found_distinct (graph_cells g) none itself (map value_leads g.roots) p)
      (λ x i. in_below x (length g.objects) (m.known x ((order_along p).1 x i))) in
      omega (arith, total_packed g.objects)

  pub orders_same : graph_order g (half_words s.heap) ≡ graph_order g (total_words g.objects)
  unfolding graph_order
  orders_same =
      found-settled (graph_cells g) none itself (map value_leads g.roots) refl (half_words s.heap)
      (total_words g.objects)
      (omega (arith, words_along (half_words s.heap), order-fits Y s (parts m)))
      (graph-fits (total_words g.objects))

  -- as many words stand before an object
  pub before_same : (x : ℕ) → In x m.kept
      → words_before (cells Y s.heap) (order Y s) (m.header_of x) ≡ words_before (graph_cells g) (graph_order g (total_words g.objects)) x
  before_same x i =
      let o = order_along (half_words s.heap) in
      ap (λ z. words_before (cells Y s.heap) z (m.header_of x)) o.0
      ∙ before_along m.kept m.header_of m.apart (graph_cells g) none itself (cells Y s.heap) (still 0) (cell_leads Y) refl refl
      (λ y j. object-size (nth g y) (m.header_of y) (within y j) (m.holds y j))
      (λ y k j l. object_alike (nth g y) (m.header_of y) k (within y j) (m.holds y j) l)
      x (graph_order g (half_words s.heap)) i o.1
      ∙ ap (λ z. words_before (graph_cells g) z x) orders_same

  -- the live words are the graph's
  pub live_same : live Y s ≡ (graph_counts g).live
  unfolding graph_counts
  live_same =
      live-is Y s (parts m) ∙ words_along (half_words s.heap) ∙ ap (λ o. length (packed (graph_cells g) o)) orders_same

  -- words that stand for values: as many are addresses as there are objects among the values
  addresses_alike : (vs : List Value) (ws : List ℕ) → length ws ≡ length vs
      → ((k : ℕ) → k < length vs → Encodes Y m.kept m.header_of (get_or vs k (plain null)) (get_or ws k 0))
      → addresses_in ws ≡ objects_in vs
  unfolding addresses_in objects_in
  addresses_alike [] [] n f = refl
  addresses_alike [] (w ∷ ws) n f = absurd (omega arith)
  addresses_alike (v ∷ vs) [] n f = absurd (omega arith)
  addresses_alike (plain p ∷ vs) (w ∷ ws) n f =
      let e = f zero (omega arith) in
      let ih = addresses_alike vs ws (omega arith) (λ k l. f (suc k) (omega arith)) in
      rw (e.1, plain_no_address p e.0) (omega arith)
  addresses_alike (object x ∷ vs) (w ∷ ws) n f =
      let e = f zero (omega arith) in
      let ih = addresses_alike vs ws (omega arith) (λ k l. f (suc k) (omega arith)) in
      rw (e.1, header-is-address Y s (parts m) (m.header_of x) (m.head x e.0) near) (omega arith)

  object-addresses : (b : Object) (i : ℕ) → i + size Y s.heap i ≤ length s.heap
      → Holds Y m.kept m.header_of s.heap b i
      → addresses_of Y s.heap i ≡ objects_of b
  object-addresses (traced vs) i l h =
      rw h.0
      (addresses_alike vs (field_words Y s.heap i) (fields-length Y s.heap i l ∙ h.1)
      (λ f n. rw (field_at Y s.heap i f (let y = h.1 in omega arith)) (h.2 f n)))
  object-addresses (untraced ws) i l h = rw h.0

  among_alike : (o : List ℕ) → Inside m.kept m.header_of m.apart o
      → addresses_among Y s.heap (map m.header_of o) ≡ objects_among g o
  unfolding addresses_among objects_among
  among_alike [] n = refl
  among_alike (x ∷ o) n =
      let i = n x (in_self x o) in
      let a = object-addresses (nth g x) (m.header_of x) (within x i) (m.holds x i) in
      let ih = among_alike o (λ z k. n z (in_tail z x o k)) in
      omega arith

  -- and so is all that a collection counts
  counts_same : counts Y s ≡ graph_counts g
  unfolding counts graph_counts
  counts_same =
      let o = order_along (half_words s.heap) in
      let r = addresses_alike g.roots s.roots m.count m.roots in
      let f : addresses_among Y s.heap (order Y s) ≡ objects_among g (graph_order g (total_words g.objects)) =
      ap (addresses_among Y s.heap) o.0 ∙ among_alike (graph_order g (half_words s.heap)) o.1
      ∙ ap (objects_among g) orders_same in
      same-counts (counts Y s) (graph_counts g) live_same
      (ap length o.0 ∙ length-map (graph_order g (half_words s.heap)) m.header_of ∙ ap length orders_same)
      (omega arith)

  abbrev c : D.Collects Y s (collected Y s) (counts Y s)
  c = collects Y s (parts m)

  abbrev kept' : List ℕ
  kept' = graph_order g (half_words s.heap)

  abbrev header_of' : ℕ → ℕ
  header_of' x = D.copy_index Y s (m.header_of x)

  kept-known : (x : ℕ) → In x (graph_order g (half_words s.heap)) → In x m.kept
  kept-known x i = (order_along (half_words s.heap)).1 x i

  kept-order : (x : ℕ) → In x (graph_order g (half_words s.heap)) → In (m.header_of x) (order Y s)
  kept-order x i = rw (order_along (half_words s.heap)).0 (in_map m.header_of x (graph_order g (half_words s.heap)) i)

  kept_reach : (x : ℕ) → In x (graph_order g (half_words s.heap)) → D.Reach Y s (m.header_of x)
  kept_reach x i = c.lists.listed (m.header_of x) (in_mem (m.header_of x) (order Y s) (kept-order x i))

  reach_kept : (x : ℕ) → In x m.kept → D.Reach Y s (m.header_of x) → In x (graph_order g (half_words s.heap))
  reach_kept x i r =
      let o : In (m.header_of x) (order Y s) = mem_in (m.header_of x) (order Y s) (c.lists.reached (m.header_of x) r) in
      let t = map_in_out m.header_of (m.header_of x) (graph_order g (half_words s.heap))
      (rw (order_along (half_words s.heap)).0 at o) in
      subst (λ z. In z (graph_order g (half_words s.heap))) (m.apart t.0 x (kept-known t.0 t.1) i t.2) t.1

  -- a value and what its word became
  became : (v : Value) (w w' : ℕ) → Encodes Y m.kept m.header_of v w → D.Became Y s w w'
      → (is_address w ≡ true → D.Reach Y s (index Y w)) → Encodes Y kept' header_of' v w'
  became (plain p) w w' e b r = (e.0, became_stays Y s w w' b (rw e.1 (plain_no_address p e.0)) ∙ e.1)
  became (object x) w w' e b r =
      let p : is_address w ≡ true = rw e.1 (header-is-address Y s (parts m) (m.header_of x) (m.head x e.0) near) in
      let d : index Y w ≡ m.header_of x = rw e.1 (index-address Y (m.header_of x)) in
      (reach_kept x e.0 (subst (D.Reach Y s) d (r p)), b.moves p ∙ ap (λ z. address Y (D.copy_index Y s z)) d)

  kept-holds : (b : Object) (i : ℕ) → D.Reach Y s i → Holds Y m.kept m.header_of s.heap b i
      → Holds Y kept' header_of' (collected Y s).heap b (D.copy_index Y s i)
  kept-holds (traced vs) i r h =
      let e = c.header i r in (
        ap (λ z. Y.kind_of z) e ∙ h.0,
        ap (λ z. Y.count_of z) e ∙ h.1,
        λ f l.
            let u : f < field_count Y s.heap i = let y = h.1 in omega arith in
            became (get_or vs f (plain null)) (at s.heap (i + 1 + f))
            (at (collected Y s).heap (D.copy_index Y s i + 1 + f))
            (h.2 f l) (c.value_field i f r h.0 u)
            (λ p. D.from_field i f r h.0 u p),
      )
  kept-holds (untraced ws) i r h =
      let e = c.header i r in (
        ap (λ z. Y.kind_of z) e ∙ h.0,
        ap (λ z. Y.count_of z) e ∙ h.1,
        λ f l. c.raw_field i f r h.0 (let y = h.1 in omega arith) ∙ h.2 f l,
      )

  pub collect_represents : Represents Y (collected Y s) g
  collect_represents = record {
    ok = tests_sound Y (collected Y s) (new_sound Y s (parts m));
    kept = kept';
    header_of = header_of';
    known = λ x i. m.known x (kept-known x i);
    head = λ x i. rw c.copies (in_map (D.copy_index Y s) (m.header_of x) (order Y s) (kept-order x i));
    apart = λ x y i j e. m.apart x y (kept-known x i) (kept-known y j)
        (c.shared (m.header_of x) (m.header_of y) (kept_reach x i) (kept_reach y j) e);
    count = c.root_count ∙ m.count;
    text = c.same_text ∙ m.text;
    roots = λ r l.
        let n : r < length s.roots = omega (arith, m.count) in
        became (root_value g r) (at s.roots r) (at (collected Y s).roots r) (m.roots r l) (c.root r n) (λ p. D.from_root r n p);
    holds = λ x i. kept-holds (nth g x) (m.header_of x) (kept_reach x i) (m.holds x (kept-known x i));
  }

  pub collect_agrees : Agrees Y (step Y Ask.Collect s) (graph_step Ask.Collect g)
  unfolding step Calls.collect graph_step refuse
  collect_agrees = rw (unshaped s (parts m).shape, sound-whole Y s (parts m), counts_same) (refl, collect_represents)
