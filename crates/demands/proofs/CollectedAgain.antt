-- A heap that is collected is met in the order in which its objects stand, and counts what it counted before.
use Prim.Native.Nat.{ℕ, zero, suc, ◌+◌, ◌≤◌, ◌<◌}
use native.Mathlib.Omega.{arith}
use mathlib.Core.Path.{◌≡◌, refl, sym, ap, ◌∙◌, subst}
use mathlib.Core.Logic.{⊎_elim}
use mathlib.Core.Bool.{true, false}
use mathlib.Core.List.{List, [], ◌∷◌, map}
use mathlib.Core.Option.{Option, none, some}
use lib.ListN.{length, get_or, length-map}
use lib.Seq.{ext_get_or}
use Rattle.model.specs.declared.Kind.{Kind}
use Rattle.model.specs.declared.Kind.TheVariants.{Traced, Untraced}
use Rattle.model.specs.Collection.{Cell, still, value, addresses_in, field_cell, cells, word_leads, cell_leads, order_at, order}
use Rattle.model.specs.Collection.{addresses_among, counts, rename, settle, copied, collected}
use Rattle.model.specs.Demand2 as D
use Rattle.model.specs.Discovery.{packed}
use Rattle.model.specs.Headers.{Layout, Adjacent}
use Rattle.model.specs.Objects.{address, index, kind, size}
use Rattle.model.specs.Soundness.{headers}
use Rattle.model.specs.Values.{is_address}
use Rattle.model.specs.Words.{State, at, half_words, other_first}
use Rattle.theory.proofs.Collected.{live-is, new_room, order_tile, new_header, new_field}
use Rattle.theory.proofs.CollectedSound.{new_tiled, becomes, order_reach, new_sound}
use Rattle.theory.proofs.Counting.{meets, meetings, address_meets, words-met, packed-met}
use Rattle.theory.proofs.Discovery.{root, cell}
use Rattle.theory.proofs.DiscoveryAlike.{Along, found_along}
use Rattle.theory.proofs.Lists.{get_d_map}
use Rattle.theory.proofs.Members.{In, in_map}
use Rattle.theory.proofs.Objects.{index-address, cells-length, field_cell_lem}
use Rattle.theory.proofs.Order.{order_at-reached, order-fits, reached-order}
use Rattle.theory.proofs.Packed.{words_before-most, packed-named, packed-map}
use Rattle.theory.proofs.Shape.{other_in}
use Rattle.theory.proofs.Soundness.{SoundTests}
use Rattle.theory.proofs.Tests.{by_test}
use Rattle.theory.proofs.WordSorts.{parts_address, became_stays}
use Rattle.demands.proofs.Demand2.{collects}
use Rattle.demands.proofs.TellsState.{within}
use Rattle.demands.proofs.Same.{same-counts}

module _ (Y : Layout) (near : Adjacent Y) (s : State) (h : SoundTests Y s) where
  abbrev s' : State
  s' = collected Y s

  -- what becomes of a word, and of a cell
  abbrev pub new : ℕ → ℕ
  new w = rename Y s.heap (order Y s) (other_first s) w

  abbrev pub renamed : Cell → Cell
  renamed (still w) = still w
  renamed (value w) = value (new w)

  -- an address becomes one, also where no object of the order has it
  pub new_address : (w : ℕ) → is_address w ≡ true → is_address (new w) ≡ true
  new_address w p =
      let b = words_before-most (cells Y s.heap) (order Y s) (index Y w) in
      let o = other_in s h.shape in
      rw ((becomes Y s h w).moves p)
      (parts_address (address Y (D.copy_index Y s (index Y w))) (omega arith) (λ z. omega arith)
      (omega (arith, order-fits Y s h, h.shape.odd, h.shape.small)))

  pub new_index : (w : ℕ) → is_address w ≡ true → index Y (new w) ≡ D.copy_index Y s (index Y w)
  new_index w p = ap (index Y) ((becomes Y s h w).moves p) ∙ index-address Y (D.copy_index Y s (index Y w))

  new_meets : (w : ℕ) → meets (word_leads Y (new w)) ≡ meets (word_leads Y w)
  new_meets w =
      ⊎_elim
      (λ (p : is_address w ≡ true). address_meets Y (new w) (new_address w p) ∙ sym (address_meets Y w p))
      (λ (p : is_address w ≡ false). ap (λ z. meets (word_leads Y z)) (became_stays Y s w (new w) (becomes Y s h w) p))
      (by_test (is_address w))

  -- ---- the copies' cells

  field-renamed : (k : Kind) (w : ℕ) → field_cell k (settle Y s.heap (order Y s) (other_first s) (field_cell k w)) ≡ renamed (field_cell k w)
  field-renamed Traced w = refl
  field-renamed Untraced w = refl

  copy_within : (x : ℕ) → In x (order Y s)
      → D.copy_index Y s x + size Y s'.heap (D.copy_index Y s x) ≤ length s'.heap
  copy_within x m =
      within Y s' (new_sound Y s h) (D.copy_index Y s x)
      (rw (new_tiled Y s h).1 (in_map (D.copy_index Y s) x (order Y s) m))

  copy-size : (x : ℕ) → In x (order Y s) → size Y s'.heap (D.copy_index Y s x) ≡ size Y s.heap x
  copy-size x m = ap (λ w. Y.count_of w + 1) (new_header Y s h x m)

  copy_cell : (x k : ℕ) → In x (order Y s) → k < size Y s.heap x
      → get_or (cells Y s'.heap (D.copy_index Y s x)) k (still 0) ≡ renamed (get_or (cells Y s.heap x) k (still 0))
  copy_cell x zero m l = ap still (new_header Y s h x m)
  copy_cell x (suc f) m l =
      let n = copy-size x m in
      field_cell_lem Y s'.heap (D.copy_index Y s x) f (copy_within x m) (omega arith)
      ∙ ap (λ w. field_cell (Y.kind_of w) (at s'.heap (D.copy_index Y s x + 1 + f))) (new_header Y s h x m)
      ∙ ap (field_cell (kind Y s.heap x)) (new_field Y s h x f m (omega arith))
      ∙ field-renamed (kind Y s.heap x) (at s.heap (x + 1 + f))
      ∙ sym (ap renamed (field_cell_lem Y s.heap x f (order_tile Y s h x m).0 (omega arith)))

  copy-cells : (x : ℕ) → In x (order Y s) → cells Y s'.heap (D.copy_index Y s x) ≡ map renamed (cells Y s.heap x)
  copy-cells x m =
      let c = cells-length Y s.heap x (order_tile Y s h x m).0 in
      let c' = cells-length Y s'.heap (D.copy_index Y s x) (copy_within x m) in
      let n = length-map (cells Y s.heap x) renamed in
      let z = copy-size x m in
      ext_get_or (still 0) (cells Y s'.heap (D.copy_index Y s x)) (map renamed (cells Y s.heap x)) (omega arith)
      (λ k l.
      copy_cell x k m (omega arith)
      ∙ sym (get_d_map renamed (cells Y s.heap x) k (still 0) (still 0) (omega arith)))

  -- ---- the order

  pub order_closed : (i k j : ℕ) → In i (order Y s) → cell_leads Y (get_or (cells Y s.heap i) k (still 0)) ≡ some j → In j (order Y s)
  order_closed i k j m e = reached-order Y s h j (cell k (order_at-reached Y s h (half_words s.heap) i m) e)

  copies_apart : (x y : ℕ) → In x (order Y s) → In y (order Y s) → D.copy_index Y s x ≡ D.copy_index Y s y → x ≡ y
  copies_apart x y m n e = (collects Y s h).shared x y (order_reach Y s h x m) (order_reach Y s h y n) e

  abbrev A : Option ℕ → Option ℕ → Type 0
  A = Along (order Y s) (D.copy_index Y s) copies_apart

  word_along : (w : ℕ) → ((j : ℕ) → word_leads Y w ≡ some j → In j (order Y s)) → A (word_leads Y w) (word_leads Y (new w))
  unfolding word_leads
  word_along w f =
      ⊎_elim
      (λ (p : is_address w ≡ true).
      rw (p, new_address w p, new_index w p) (f (index Y w) (rw p), refl))
      (λ (p : is_address w ≡ false). rw (p, became_stays Y s w (new w) (becomes Y s h w) p, p) refl)
      (by_test (is_address w))

  cell_along : (c : Cell) → ((j : ℕ) → cell_leads Y c ≡ some j → In j (order Y s)) → A (cell_leads Y c) (cell_leads Y (renamed c))
  cell_along (still w) f = refl
  cell_along (value w) f = word_along w f

  cells_along : (x k : ℕ) → In x (order Y s) → k < length (cells Y s.heap x)
      → A (cell_leads Y (get_or (cells Y s.heap x) k (still 0))) (cell_leads Y (get_or (cells Y s'.heap (D.copy_index Y s x)) k (still 0)))
  cells_along x k m l =
      let c = cells-length Y s.heap x (order_tile Y s h x m).0 in
      subst (λ z. A (cell_leads Y (get_or (cells Y s.heap x) k (still 0))) (cell_leads Y z)) (sym (copy_cell x k m (omega arith)))
      (cell_along (get_or (cells Y s.heap x) k (still 0)) (λ j e. order_closed x k j m e))

  pub roots_new : s'.roots ≡ map new s.roots
  unfolding copied
  roots_new = refl

  root_along : (r : ℕ) → r < length (map (word_leads Y) s.roots)
      → A (get_or (map (word_leads Y) s.roots) r none) (get_or (map (word_leads Y) s'.roots) r none)
  root_along r l =
      let n = length-map s.roots (word_leads Y) in
      let m = length-map s.roots new in
      let e : get_or (map (word_leads Y) s.roots) r none ≡ word_leads Y (at s.roots r) =
      get_d_map (word_leads Y) s.roots r 0 none (omega arith) in
      let e' : get_or (map (word_leads Y) (map new s.roots)) r none ≡ word_leads Y (new (at s.roots r)) =
      get_d_map (word_leads Y) (map new s.roots) r 0 none (omega arith)
      ∙ ap (word_leads Y) (get_d_map new s.roots r 0 0 (omega arith)) in
      rw (roots_new, e, e') (word_along (at s.roots r) (λ j q. reached-order Y s h j (root r (e ∙ q))))

  -- the copies are met in the order in which they stand
  order_new : order Y s' ≡ map (D.copy_index Y s) (order Y s)
  unfolding order_at
  order_new =
      ap (order_at Y s') (new_room Y s h)
      ∙ (found_along (order Y s) (D.copy_index Y s) copies_apart (cells Y s.heap) (still 0) (cell_leads Y)
      (cells Y s'.heap) (still 0) (cell_leads Y) refl refl
      (λ x m. ap length (copy-cells x m) ∙ length-map (cells Y s.heap x) renamed)
      cells_along
      (map (word_leads Y) s.roots) (map (word_leads Y) s'.roots)
      (length-map s.roots (word_leads Y) ∙ sym (length-map s'.roots (word_leads Y) ∙ ap length roots_new ∙ length-map s.roots new))
      root_along (half_words s.heap)).0

  pub in_order : order Y s' ≡ headers Y s'
  in_order = order_new ∙ sym (new_tiled Y s h).1

  -- ---- the copies' cells end to end, and the numbers

  pub packed_new : packed (cells Y s'.heap) (headers Y s') ≡ map renamed (packed (cells Y s.heap) (order Y s))
  packed_new =
      ap (packed (cells Y s'.heap)) (new_tiled Y s h).1
      ∙ packed-named (cells Y s'.heap) (D.copy_index Y s) (order Y s)
      ∙ packed-map (cells Y s.heap) (λ x. cells Y s'.heap (D.copy_index Y s x)) renamed (order Y s) copy-cells

  words_meet : (ws : List ℕ) → meetings (map (word_leads Y) (map new ws)) ≡ meetings (map (word_leads Y) ws)
  unfolding meetings
  words_meet [] = refl
  words_meet (w ∷ ws) = let m = new_meets w in let ih = words_meet ws in omega arith

  cells_meet : (cs : List Cell) → meetings (map (cell_leads Y) (map renamed cs)) ≡ meetings (map (cell_leads Y) cs)
  unfolding meetings
  cells_meet [] = refl
  cells_meet (still w ∷ cs) = let ih = cells_meet cs in omega arith
  cells_meet (value w ∷ cs) = let m = new_meets w in let ih = cells_meet cs in omega arith

  pub counts_new : counts Y s' ≡ counts Y s
  unfolding counts
  counts_new =
      let cs = packed (cells Y s.heap) (order Y s) in
      let packed-order : packed (cells Y s'.heap) (order Y s') ≡ map renamed cs =
      ap (packed (cells Y s'.heap)) in_order ∙ packed_new in
      let roots : addresses_in s'.roots ≡ addresses_in s.roots =
      ap addresses_in roots_new ∙ words-met Y (map new s.roots) ∙ words_meet s.roots ∙ sym (words-met Y s.roots) in
      let fields : addresses_among Y s'.heap (order Y s') ≡ addresses_among Y s.heap (order Y s) =
      packed-met Y s'.heap (order Y s') ∙ ap (λ z. meetings (map (cell_leads Y) z)) packed-order
      ∙ cells_meet cs ∙ sym (packed-met Y s.heap (order Y s)) in
      same-counts (counts Y s') (counts Y s)
      (live-is Y s' (new_sound Y s h) ∙ ap length packed-order ∙ length-map cs renamed ∙ sym (live-is Y s h))
      (ap length order_new ∙ length-map (order Y s) (D.copy_index Y s))
      (omega arith)
