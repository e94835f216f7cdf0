-- Two sound heaps of one image, of whatever halves and sizes, stand for the same graphs.
use Prim.Native.Nat.{ℕ, suc, ◌+◌, ◌-◌, ◌≤◌, ◌<◌}
use native.Mathlib.Omega.{arith}
use mathlib.Core.Path.{◌≡◌, sym, ap, ◌∙◌}
use mathlib.Core.Logic.{⊎_elim}
use mathlib.Core.Bool.{true, false}
use mathlib.Core.List.{List, [], ◌∷◌, map}
use lib.ListN.{length, get_or, length-map}
use Rattle.model.specs.declared.Kind.{Kind}
use Rattle.model.specs.declared.Kind.TheVariants.{Traced, Untraced}
use Rattle.model.specs.Collection.{still, field_cell, cells}
use Rattle.model.specs.Conditions as C
use Rattle.model.specs.Discovery.{packed}
use Rattle.model.specs.Graph.{null, Value, plain, object, Object, traced, untraced, Graph, nth, root_value}
use Rattle.model.specs.Headers.{Layout, Adjacent}
use Rattle.model.specs.Images.{ImageWord, word, offset, Image, image_value, image_cell, image}
use Rattle.model.specs.Objects.{address, index, kind, field_count, size}
use Rattle.model.specs.Represents.{Encodes, Holds, Represents}
use Rattle.model.specs.Settling.{TellsGraph}
use Rattle.model.specs.Soundness.{headers, is_value}
use Rattle.model.specs.Values.{is_address}
use Rattle.model.specs.Words.{State, at, first_word, free}
use Rattle.theory.proofs.Deciding.{tiling_le, tiles_tiling, tests_sound, sound_tests}
use Rattle.theory.proofs.Keeping.{tile}
use Rattle.theory.proofs.Lists.{get_d_map, map-append, append-rest}
use Rattle.theory.proofs.Members.{In, in-nil, in_head, in_tail, in_cons}
use Rattle.theory.proofs.Objects.{index-address, cells-length, field_cell_lem}
use Rattle.theory.proofs.Order.{free_in}
use Rattle.theory.proofs.Soundness.{SoundTests}
use Rattle.theory.proofs.Tests.{by_test}
use Rattle.theory.proofs.Values.{value-header}
use Rattle.demands.proofs.TellsState.{value-address, within, image-at, roots-same}
use Rattle.demands.proofs.Represents.{parts, plain_no_address, header-is-address}

word_same : (w w' : ℕ) → word w ≡ word w' → w ≡ w'
word_same w w' e = cc

offset-same : (k k' : ℕ) → offset k ≡ offset k' → k ≡ k'
offset-same k k' e = cc

word-offset : (w k : ℕ) → word w ≡ offset k → ⊥
word-offset w k e = let z : ◌≡◌ {A = ℕ} 0 1 = cc in omega arith

-- ---- headers stand at the same places

module _ (Y : Layout) (b b' : ℕ) (H H' : List ℕ) where
  abbrev images : List ℕ → List ImageWord
  images hs = map (image_cell Y b) (packed (cells Y H) hs)

  abbrev images' : List ℕ → List ImageWord
  images' hs = map (image_cell Y b') (packed (cells Y H') hs)

  nil_cons : {A : Type 0} (x : ImageWord) (xs : List ImageWord) → [] ≡ x ∷ xs → A
  nil_cons x xs e = let z : ◌≡◌ {A = ℕ} 0 (suc (length xs)) = ap length e in absurd (omega arith)

  split : (i i' : ℕ) (hs hs' : List ℕ) → i + size Y H i ≤ length H → i' + size Y H' i' ≤ length H'
      → images (i ∷ hs) ≡ images' (i' ∷ hs') → (size Y H i ≡ size Y H' i') × (images hs ≡ images' hs')
  unfolding packed
  split i i' hs hs' l l' e =
      let w : at H i ≡ at H' i' = word_same (at H i) (at H' i') (ap (λ (x : List ImageWord). get_or x 0 (word 0)) e) in
      let n : size Y H i ≡ size Y H' i' = ap (λ z. Y.count_of z + 1) w in
      let c = cells-length Y H i l in
      let c' = cells-length Y H' i' l' in
      let long : length (map (image_cell Y b) (cells Y H i)) ≡ length (map (image_cell Y b') (cells Y H' i')) =
      length-map (cells Y H i) (image_cell Y b) ∙ c ∙ n ∙ sym (length-map (cells Y H' i') (image_cell Y b') ∙ c') in (
        n,
        append-rest (map (image_cell Y b) (cells Y H i)) (map (image_cell Y b') (cells Y H' i')) (images hs) (images' hs') long
            (sym (map-append (image_cell Y b) (cells Y H i) (packed (cells Y H) hs)) ∙ e
            ∙ map-append (image_cell Y b') (cells Y H' i') (packed (cells Y H') hs')),
      )

  -- a header of one tiling is at the same place a header of the other
  aligned : {e e' i i' : ℕ} {hs hs' : List ℕ} → C.Tiling Y H e i hs → C.Tiling Y H' e' i' hs' → e ≤ length H → e' ≤ length H'
      → i + b' ≡ i' + b → images hs ≡ images' hs' → (j : ℕ) → In j hs → In (j + b' - b) hs'
  unfolding packed
  aligned C.done t' l l' p q j m = in-nil j m
  aligned (C.object i hs n c t) C.done l l' p q j m = absurd (nil_cons _ _ (sym q))
  aligned (C.object i hs n c t) (C.object i' hs' n' c' t') l l' p q j m =
      let r = tiling_le Y t in
      let r' = tiling_le Y t' in
      let x = split i i' hs hs' (omega arith) (omega arith) q in
      let z = x.0 in
      ⊎_elim
      (λ (o : j ≡ i). in_head (j + b' - b) i' hs' (omega arith))
      (λ (o : In j hs). in_tail (j + b' - b) i' hs' (aligned t t' l l' (omega arith) x.1 j o))
      (in_cons j i hs m)

-- ---- the second heap, where the first stands for a graph

module _ (Y : Layout) (near : Adjacent Y) (s t : State) (g : Graph) (m : Represents Y s g) (h' : SoundTests Y t)
    (same : image Y s ≡ image Y t) where
  abbrev h : SoundTests Y s
  h = parts m

  -- the place in the second heap
  abbrev there : ℕ → ℕ
  there i = i + first_word t - first_word s

  there-header : (i : ℕ) → In i (headers Y s) → In (there i) (headers Y t)
  unfolding image
  there-header i n =
      aligned Y (first_word s) (first_word t) s.heap t.heap
      (tiles_tiling Y s.heap (free s) (free s - first_word s) (first_word s) h.tiled)
      (tiles_tiling Y t.heap (free t) (free t - first_word t) (first_word t) h'.tiled)
      (free_in Y s h) (free_in Y t h') (omega arith) (ap (λ (x : Image). x.words) same) i n

  cell_there : (i k : ℕ) → In i (headers Y s) → k < size Y s.heap i → k < size Y t.heap (there i)
      → image_cell Y (first_word s) (get_or (cells Y s.heap i) k (still 0))
      ≡ image_cell Y (first_word t) (get_or (cells Y t.heap (there i)) k (still 0))
  cell_there i k n l l' =
      let f = (tile Y s h i n).from in
      let e : i - first_word s + k ≡ there i - first_word t + k = omega arith in
      sym (image-at Y s h i k n l)
      ∙ ap (λ (x : Image). get_or x.words (i - first_word s + k) (word 0)) same
      ∙ ap (λ x. get_or (image Y t).words x (word 0)) e
      ∙ image-at Y t h' (there i) k (there-header i n) l'

  header-there : (i : ℕ) → In i (headers Y s) → at t.heap (there i) ≡ at s.heap i
  header-there i n = word_same (at t.heap (there i)) (at s.heap i) (sym (cell_there i 0 n (omega arith) (omega arith)))

  field-there : (i f : ℕ) (k : Kind) → In i (headers Y s) → kind Y s.heap i ≡ k → f < field_count Y s.heap i
      → image_cell Y (first_word s) (field_cell k (at s.heap (i + 1 + f)))
      ≡ image_cell Y (first_word t) (field_cell k (at t.heap (there i + 1 + f)))
  field-there i f k n e l =
      let w = header-there i n in
      let c : field_count Y t.heap (there i) ≡ field_count Y s.heap i = ap (λ z. Y.count_of z) w in
      let d : kind Y t.heap (there i) ≡ k = ap (λ z. Y.kind_of z) w ∙ e in
      ap (λ z. image_cell Y (first_word s) (field_cell z (at s.heap (i + 1 + f)))) (sym e)
      ∙ ap (image_cell Y (first_word s)) (sym (field_cell_lem Y s.heap i f (within Y s h i n) l))
      ∙ cell_there i (suc f) n (omega arith) (omega arith)
      ∙ ap (image_cell Y (first_word t)) (field_cell_lem Y t.heap (there i) f (within Y t h' (there i) (there-header i n)) (omega arith))
      ∙ ap (λ z. image_cell Y (first_word t) (field_cell z (at t.heap (there i + 1 + f)))) d

  -- a word that has the image of a value's word stands for the value
  plain-there : (w w' : ℕ) → is_address w ≡ false → image_value Y (first_word s) w ≡ image_value Y (first_word t) w' → w' ≡ w
  unfolding image_value
  plain-there w w' p e =
      ⊎_elim
      (λ (q : is_address w' ≡ true). absurd (word-offset w (index Y w' - first_word t) (rw (p, q) at e)))
      (λ (q : is_address w' ≡ false). sym (word_same w w' (rw (p, q) at e)))
      (by_test (is_address w'))

  address-there : (i w' : ℕ) → In i (headers Y s) → is_value Y (headers Y t) w' ≡ true
      → image_value Y (first_word s) (address Y i) ≡ image_value Y (first_word t) w' → w' ≡ address Y (there i)
  unfolding image_value
  address-there i w' n v e =
      let p = header-is-address Y s h i n near in
      let x = index-address Y i in
      ⊎_elim
      (λ (q : is_address w' ≡ true).
      let k = offset-same (index Y (address Y i) - first_word s) (index Y w' - first_word t) (rw (p, q) at e) in
      let f = (tile Y s h i n).from in
      let f' = (tile Y t h' (index Y w') (value-header Y (headers Y t) w' v q)).from in
      sym (value-address Y t h' w' v q) ∙ ap (address Y) (omega arith))
      (λ (q : is_address w' ≡ false).
      absurd (word-offset w' (index Y (address Y i) - first_word s) (sym (rw (p, q) at e))))
      (by_test (is_address w'))

  encodes_there : (v : Value) (w w' : ℕ) → Encodes Y m.kept m.header_of v w → is_value Y (headers Y t) w' ≡ true
      → image_value Y (first_word s) w ≡ image_value Y (first_word t) w'
      → Encodes Y m.kept (λ x. there (m.header_of x)) v w'
  encodes_there (plain p) w w' e v q =
      (e.0, plain-there w w' (rw e.1 (plain_no_address p e.0)) q ∙ e.1)
  encodes_there (object x) w w' e v q =
      (e.0, address-there (m.header_of x) w' (m.head x e.0) v (rw (← e.1) q))

  holds-there : (b : Object) (i : ℕ) → In i (headers Y s) → Holds Y m.kept m.header_of s.heap b i
      → Holds Y m.kept (λ x. there (m.header_of x)) t.heap b (there i)
  holds-there (traced vs) i n a =
      let w = header-there i n in
      let d : kind Y t.heap (there i) ≡ Traced = ap (λ z. Y.kind_of z) w ∙ a.0 in
      let c : field_count Y t.heap (there i) ≡ length vs = ap (λ z. Y.count_of z) w ∙ a.1 in (
        d,
        c,
        λ f l.
            encodes_there (get_or vs f (plain null)) (at s.heap (i + 1 + f)) (at t.heap (there i + 1 + f)) (a.2 f l)
            (h'.values (there i) f (there-header i n) d (omega arith))
            (field-there i f Traced n a.0 (let z = a.1 in omega arith)),
      )
  holds-there (untraced ws) i n a =
      let w = header-there i n in (
        ap (λ z. Y.kind_of z) w ∙ a.0,
        ap (λ z. Y.count_of z) w ∙ a.1,
        λ f l.
            sym (word_same (at s.heap (i + 1 + f)) (at t.heap (there i + 1 + f))
            (field-there i f Untraced n a.0 (let z = a.1 in omega arith)))
            ∙ a.2 f l,
      )

  root-there : (r : ℕ) → r < length s.roots
      → image_value Y (first_word s) (at s.roots r) ≡ image_value Y (first_word t) (at t.roots r)
  unfolding image
  root-there r l =
      let n = roots-same Y s t h h' same in
      sym (get_d_map (image_value Y (first_word s)) s.roots r 0 (word 0) l)
      ∙ ap (λ (x : Image). get_or x.roots r (word 0)) same
      ∙ get_d_map (image_value Y (first_word t)) t.roots r 0 (word 0) (omega arith)

  stands-there : s.text ≡ t.text → Represents Y t g
  stands-there text = record {
    ok = tests_sound Y t h';
    kept = m.kept;
    header_of = λ x. there (m.header_of x);
    known = m.known;
    head = λ x i. there-header (m.header_of x) (m.head x i);
    apart = λ x y i j e.
        let a = (tile Y s h (m.header_of x) (m.head x i)).from in
        let b = (tile Y s h (m.header_of y) (m.head y j)).from in
        m.apart x y i j (omega arith);
    count = sym (roots-same Y s t h h' same) ∙ m.count;
    roots = λ r l.
        let n : r < length s.roots = omega (arith, m.count) in
        encodes_there (root_value g r) (at s.roots r) (at t.roots r) (m.roots r l)
        (h'.roots r (let z = roots-same Y s t h h' same in omega arith)) (root-there r n);
    holds = λ x i. holds-there (nth g x) (m.header_of x) (m.head x i) (m.holds x i);
    text = sym text ∙ m.text;
  }

pub tells_graph : (Y : Layout) → Adjacent Y → TellsGraph Y (image Y)
tells_graph Y near s t g m ok text same = stands-there Y near s t g m (sound_tests Y t ok) same text
