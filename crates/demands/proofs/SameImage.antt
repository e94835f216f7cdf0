-- An image is a matter of the graph alone: every sound heap that stands for a graph has the graph's image once it is collected.
use Prim.Native.Nat.{ℕ, ◌-◌, ◌<◌}
use native.Mathlib.Omega.{arith}
use mathlib.Core.Path.{◌≡◌, refl, sym, ap, ◌∙◌, subst}
use mathlib.Core.List.{List, ◌∷◌, map, map-map}
use lib.ListN.{length, get_or, length-map}
use lib.Seq.{ext_get_or}
use Rattle.model.specs.declared.Kind.{Kind}
use Rattle.model.specs.declared.Kind.TheVariants.{Traced, Untraced}
use Rattle.model.specs.Collection.{still, field_cell, cells, order, collected}
use Rattle.model.specs.Demand2 as D
use Rattle.model.specs.Demand3.{OfWords}
use Rattle.model.specs.Discovery.{packed, words_before}
use Rattle.model.specs.Graph.{null, Value, plain, object, Object, traced, untraced, Graph, nth, graph_cells, total_words, graph_order}
use Rattle.model.specs.Headers.{Layout, Adjacent, OneHeader}
use Rattle.model.specs.Images.{ImageWord, word, offset, Image, image_value, image_cell, image}
use Rattle.model.specs.Objects.{kind, field_count, field_words}
use Rattle.model.specs.Represents.{plain_word, Encodes, Holds, Represents}
use Rattle.model.specs.Sessions.{machine}
use Rattle.model.specs.Settling.{SameImage}
use Rattle.model.specs.Soundness.{headers}
use Rattle.model.specs.Words.{State, at, half_words, first_word}
use Rattle.theory.proofs.Collected.{order_tile, new_header}
use Rattle.theory.proofs.CollectedSound.{new_tiled}
use Rattle.theory.proofs.Lists.{get_d_map}
use Rattle.theory.proofs.Members.{In, map_in_out}
use Rattle.theory.proofs.Objects.{index-address, field_at, fields-length}
use Rattle.theory.proofs.Packed.{packed-named, packed-map}
use Rattle.demands.proofs.CallCollect.{order_along, orders_same, before_same, collect_represents}
use Rattle.demands.proofs.CollectedAgain.{in_order}
use Rattle.demands.proofs.TellsState.{header-place, within}
use Rattle.demands.proofs.Represents.{parts, plain_no_address, header-is-address}
use Rattle.demands.proofs.Settling.{once_is}

-- ---- the image of a graph

module _ (Y : Layout) (g : Graph) where
  abbrev met : List ℕ
  met = graph_order g (total_words g.objects)

  abbrev value_image : Value → ImageWord
  value_image (plain p) = word (plain_word p)
  value_image (object x) = offset (words_before (graph_cells g) met x)

  abbrev object_image : Object → List ImageWord
  object_image (traced vs) = word (Y.header Traced (length vs)) ∷ map value_image vs
  object_image (untraced ws) = word (Y.header Untraced (length ws)) ∷ map word ws

  abbrev graph_image : Image
  graph_image = record { words = packed (λ x. object_image (nth g x)) met; roots = map value_image g.roots }

-- ---- a heap whose headers are those that its layout writes, and which is met in the order in which its objects stand

module _ (Y : Layout) (near : Adjacent Y) (s : State) (g : Graph) (m : Represents Y s g) (stands : order Y s ≡ headers Y s)
    (own : (i : ℕ) → In i (headers Y s) → Y.header (kind Y s.heap i) (field_count Y s.heap i) ≡ at s.heap i) where
  value-image : (v : Value) (w : ℕ) → Encodes Y m.kept m.header_of v w → image_value Y (first_word s) w ≡ value_image Y g v
  unfolding image_value
  value-image (plain p) w e = rw (e.1, plain_no_address p e.0) refl
  value-image (object x) w e =
      let n = m.head x e.0 in
      let p = header-place Y s (parts m) (m.header_of x) n in
      let b : words_before (cells Y s.heap) (headers Y s) (m.header_of x) ≡ words_before (graph_cells g) (met Y g) x =
      ap (λ o. words_before (cells Y s.heap) o (m.header_of x)) (sym stands) ∙ before_same Y near s g m x e.0 in
      let d : m.header_of x - first_word s ≡ words_before (graph_cells g) (met Y g) x = omega arith in
      rw (e.1, header-is-address Y s (parts m) (m.header_of x) n near, index-address Y (m.header_of x), d) refl

  -- words that stand for values
  values-image : (vs : List Value) (ws : List ℕ) → length ws ≡ length vs
      → ((k : ℕ) → k < length vs → Encodes Y m.kept m.header_of (get_or vs k (plain null)) (get_or ws k 0))
      → map (image_value Y (first_word s)) ws ≡ map (value_image Y g) vs
  values-image vs ws n f =
      ext_get_or (word 0) (map (image_value Y (first_word s)) ws) (map (value_image Y g) vs)
      (length-map ws (image_value Y (first_word s)) ∙ n ∙ sym (length-map vs (value_image Y g)))
      (λ k l.
      let z = length-map ws (image_value Y (first_word s)) in
      get_d_map (image_value Y (first_word s)) ws k 0 (word 0) (omega arith)
      ∙ value-image (get_or vs k (plain null)) (get_or ws k 0) (f k (omega arith))
      ∙ sym (get_d_map (value_image Y g) vs k (plain null) (word 0) (omega arith)))

  -- the words of an object of one kind, where the heap has it of that kind
  by_kind : (h : ℕ) (k j : Kind) (ws : List ℕ) → k ≡ j
      → map (image_cell Y (first_word s)) (map (field_cell j) ws) ≡ map (λ w. image_cell Y (first_word s) (field_cell j w)) ws
      → word h ∷ map (λ w. image_cell Y (first_word s) (field_cell j w)) ws
      ≡ map (image_cell Y (first_word s)) (still h ∷ map (field_cell k) ws)
  by_kind h k j ws a c = ap (λ xs. word h ∷ xs) (sym c) ∙ ap (λ t. map (image_cell Y (first_word s)) (still h ∷ map (field_cell t) ws)) (sym a)

  -- an object
  object-image : (b : Object) (i : ℕ) → In i (headers Y s) → Holds Y m.kept m.header_of s.heap b i
      → object_image Y g b ≡ map (image_cell Y (first_word s)) (cells Y s.heap i)
  object-image (traced vs) i n a =
      let l = fields-length Y s.heap i (within Y s (parts m) i n) in
      let e : Y.header Traced (length vs) ≡ at s.heap i =
      ap (λ k. Y.header k (length vs)) (sym a.0) ∙ ap (Y.header (kind Y s.heap i)) (sym a.1) ∙ own i n in
      let f : map (image_value Y (first_word s)) (field_words Y s.heap i) ≡ map (value_image Y g) vs =
      values-image vs (field_words Y s.heap i) (l ∙ a.1)
      (λ k q. rw (field_at Y s.heap i k (let z = a.1 in omega arith)) (a.2 k q)) in
      rw (e, ← f) (by_kind (at s.heap i) (kind Y s.heap i) Traced (field_words Y s.heap i) a.0 (map-map (image_cell Y (first_word s)) (field_cell Traced) (field_words Y s.heap i)))
  object-image (untraced ws) i n a =
      let l = fields-length Y s.heap i (within Y s (parts m) i n) in
      let e : Y.header Untraced (length ws) ≡ at s.heap i =
      ap (λ k. Y.header k (length ws)) (sym a.0) ∙ ap (Y.header (kind Y s.heap i)) (sym a.1) ∙ own i n in
      let f : field_words Y s.heap i ≡ ws =
      ext_get_or 0 (field_words Y s.heap i) ws (l ∙ a.1)
      (λ k q. field_at Y s.heap i k (omega arith) ∙ a.2 k (let z = a.1 in omega arith)) in
      rw (e, ← f) (by_kind (at s.heap i) (kind Y s.heap i) Untraced (field_words Y s.heap i) a.0 (map-map (image_cell Y (first_word s)) (field_cell Untraced) (field_words Y s.heap i)))

  kept-met : (x : ℕ) → In x (met Y g) → In x m.kept
  kept-met x i = (order_along Y near s g m (half_words s.heap)).1 x (rw (orders_same Y near s g m) i)

  headers-met : headers Y s ≡ map m.header_of (met Y g)
  headers-met =
      sym stands ∙ (order_along Y near s g m (half_words s.heap)).0 ∙ ap (map m.header_of) (orders_same Y near s g m)

  has_image : image Y s ≡ graph_image Y g
  unfolding image
  has_image = λ i. record { words = words i; roots = roots i }
    where
      words : (image Y s).words ≡ (graph_image Y g).words
      words =
          ap (λ o. map (image_cell Y (first_word s)) (packed (cells Y s.heap) o)) headers-met
          ∙ ap (map (image_cell Y (first_word s))) (packed-named (cells Y s.heap) m.header_of (met Y g))
          ∙ sym (packed-map (λ x. cells Y s.heap (m.header_of x)) (λ x. object_image Y g (nth g x)) (image_cell Y (first_word s)) (met Y g)
          (λ x i. let k = kept-met x i in object-image (nth g x) (m.header_of x) (m.head x k) (m.holds x k)))

      roots : (image Y s).roots ≡ (graph_image Y g).roots
      roots = values-image g.roots s.roots m.count m.roots

-- ---- any sound heap, collected

module _ (Y : Layout) (near : Adjacent Y) (one : OneHeader Y) (s : State) (g : Graph) (words : OfWords s) (m : Represents Y s g) where
  copy_own : (i : ℕ) → In i (headers Y (collected Y s))
      → Y.header (kind Y (collected Y s).heap i) (field_count Y (collected Y s).heap i) ≡ at (collected Y s).heap i
  copy_own i n =
      let h = parts m in
      let x = map_in_out (D.copy_index Y s) i (order Y s) (rw (new_tiled Y s h).1 at n) in
      let e : at (collected Y s).heap i ≡ at s.heap x.0 =
      ap (at (collected Y s).heap) (sym x.2) ∙ new_header Y s h x.0 x.1 in
      subst (λ w. Y.header (Y.kind_of w) (Y.count_of w) ≡ w) (sym e)
      (one (at s.heap x.0) (words.heap x.0) (order_tile Y s h x.0 x.1).1)

  pub collected-image : image Y (collected Y s) ≡ graph_image Y g
  collected-image =
      has_image Y near (collected Y s) g (collect_represents Y near s g m) (in_order Y near s (parts m)) copy_own

pub same-image : (Y : Layout) → Adjacent Y → OneHeader Y → SameImage Y (machine Y)
same-image Y near one s t g words words' m m' =
    ap (image Y) (once_is Y near s (parts m)) ∙ collected-image Y near one s g words m
    ∙ sym (ap (image Y) (once_is Y near t (parts m')) ∙ collected-image Y near one t g words' m')
