-- A collection leaves a sound state, whose objects are the copies.
use Prim.Native.Nat.{ℕ, ◌+◌, ◌*◌, ◌-◌, ◌%◌, ◌≤◌, ◌<◌}
use native.Mathlib.Omega.{arith}
use mathlib.Core.Path.{◌≡◌, sym, ap, ◌∙◌, subst}
use mathlib.Core.Logic.{⊎_elim}
use mathlib.Core.Bool.{true, false}
use mathlib.Core.List.{List, [], ◌∷◌, map}
use lib.ListN.{length, length-append}
use borrow.Author.Tests.{eqb-true}
use Rattle.model.specs.declared.Kind.TheVariants.{Traced}
use Rattle.model.specs.Collection.{field_cell, cells, order, live, rename, settle, collected}
use Rattle.model.specs.Demand2 as D
use Rattle.model.specs.Discovery.{packed}
use Rattle.model.specs.Headers.{Layout}
use Rattle.model.specs.Objects.{index, kind, field_count}
use Rattle.model.specs.Soundness.{tiles, headers, is_value}
use Rattle.model.specs.Values.{is_address}
use Rattle.model.specs.Words.{State, at, half_words, first_word, other_first, free}
use Rattle.theory.proofs.Collected.{live-is, new_length, new_room, new_first, new_other, new_free, new_rest, new_old}
use Rattle.theory.proofs.Collected.{new_null, order_tile, new_header, new_field, new_root, new_roots}
use Rattle.theory.proofs.Copies.{copies-tiled}
use Rattle.theory.proofs.Members.{In, in_map, map_in_out}
use Rattle.theory.proofs.Objects.{cells-length}
use Rattle.theory.proofs.Order.{order_at_distinct, order_at-reached, order-fits, reached-order, reached_reach}
use Rattle.theory.proofs.Order.{reach_reached}
use Rattle.theory.proofs.Shape.{Shaped}
use Rattle.theory.proofs.Soundness.{SoundTests}
use Rattle.theory.proofs.Tests.{by_test}
use Rattle.theory.proofs.Values.{address-value, plain_value}
use Rattle.theory.proofs.WordSorts.{odd_no_address, code_no_address, became_stays}

module _ (Y : Layout) (s : State) (h : SoundTests Y s) where
  abbrev s' : State
  s' = collected Y s

  order-count : (o' : List ℕ) → length o' ≤ length (packed (cells Y s.heap) o')
  unfolding packed
  order-count [] = omega arith
  order-count (i ∷ o') = let ih = order-count o' in rw length-append (omega arith)

  pub new_tiled : (tiles Y s'.heap (free s') (free s' - first_word s') (first_word s') ≡ true)
      × (headers Y s' ≡ map (D.copy_index Y s) (order Y s))
  new_tiled =
      rw (new_free Y s h, new_first Y s h)
      (copies-tiled Y s.heap s'.heap (order Y s) (other_first s + live Y s) (other_first s) (other_first s + live Y s - other_first s)
      (order_at_distinct Y s h (half_words s.heap))
      (ap (λ x. other_first s + x) (live-is Y s h))
      (omega (arith, order-count (order Y s), live-is Y s h))
      (λ x m. record {
        head = new_header Y s h x m;
        clear = (order_tile Y s h x m).1;
        whole = cells-length Y s.heap x (order_tile Y s h x m).0;
      }))

  -- what a word becomes
  pub becomes : (w : ℕ) → D.Became Y s w (rename Y s.heap (order Y s) (other_first s) w)
  unfolding rename
  becomes w = record {
    integer = λ o. rw (odd_no_address w (eqb-true (w % 2) 1 o));
    null = λ n. rw (eqb-true w 0 n);
    code = λ c. rw (code_no_address w c);
    moves = λ p. rw p;
  }

  renamed-value : (w : ℕ) → (is_address w ≡ true → In (index Y w) (order Y s))
      → is_value Y (headers Y s') (rename Y s.heap (order Y s) (other_first s) w) ≡ true
  renamed-value w f =
      ⊎_elim
      (λ (p : is_address w ≡ true).
      rw ((becomes w).moves p, new_tiled.1)
      (address-value Y (map (D.copy_index Y s) (order Y s)) (D.copy_index Y s (index Y w))
      (in_map (D.copy_index Y s) (index Y w) (order Y s) (f p))))
      (λ (p : is_address w ≡ false). rw (became_stays Y s w _ (becomes w) p) (plain_value Y (headers Y s') w p))
      (by_test (is_address w))

  pub reach_order : (j : ℕ) → D.Reach Y s j → In j (order Y s)
  reach_order j r = reached-order Y s h j (reach_reached Y s h j r)

  pub order_reach : (j : ℕ) → In j (order Y s) → D.Reach Y s j
  order_reach j m = reached_reach Y s h j (order_at-reached Y s h (half_words s.heap) j m)

  new_kind : (i : ℕ) → In i (order Y s) → kind Y s'.heap (D.copy_index Y s i) ≡ kind Y s.heap i
  new_kind i m = ap (λ w. Y.kind_of w) (new_header Y s h i m)

  pub new_shape : Shaped s'
  new_shape = record {
    odd = new_length Y s h ∙ h.shape.odd ∙ ap (λ x. 2 * x + 1) (sym (new_room Y s h));
    pos = rw (new_room Y s h) h.shape.pos;
    small = rw (new_room Y s h) h.shape.small;
    few = rw (new_roots Y s h) h.shape.few;
    low = omega (arith, new_first Y s h, new_free Y s h);
    high = omega (arith, new_first Y s h, new_free Y s h, new_room Y s h, live-is Y s h, order-fits Y s h);
  }

  pub traced-field : (x f : ℕ) → In x (order Y s) → kind Y s.heap x ≡ Traced → f < field_count Y s.heap x
      → at s'.heap (D.copy_index Y s x + 1 + f) ≡ rename Y s.heap (order Y s) (other_first s) (at s.heap (x + 1 + f))
  traced-field x f m k l =
      new_field Y s h x f m l
      ∙ ap (λ z. settle Y s.heap (order Y s) (other_first s) (field_cell z (at s.heap (x + 1 + f)))) k

  new_value : (x f : ℕ) → In x (order Y s) → kind Y s'.heap (D.copy_index Y s x) ≡ Traced
      → f < field_count Y s'.heap (D.copy_index Y s x)
      → is_value Y (headers Y s') (at s'.heap (D.copy_index Y s x + 1 + f)) ≡ true
  new_value x f m k l =
      let k' : kind Y s.heap x ≡ Traced = sym (new_kind x m) ∙ k in
      let l' : f < field_count Y s.heap x = let c = ap (λ w. Y.count_of w) (new_header Y s h x m) in omega arith in
      rw (traced-field x f m k' l')
      (renamed-value (at s.heap (x + 1 + f)) (λ p. reach_order _ (D.from_field x f (order_reach x m) k' l' p)))

  pub new_sound : SoundTests Y s'
  new_sound = record {
    shape = new_shape;
    null = new_null Y s h;
    idle = λ i l k.
        let e : first_word s + (i - first_word s) ≡ i = omega (arith, new_other Y s h) in
        ap (λ x. at s'.heap x) (sym e) ∙ new_old Y s h (i - first_word s) (omega (arith, new_other Y s h, new_room Y s h));
    rest = λ i l k.
        let e : other_first s + (i - other_first s) ≡ i = omega (arith, new_free Y s h) in
        ap (λ x. at s'.heap x) (sym e) ∙ new_rest Y s h (i - other_first s) (omega (arith, new_free Y s h, live-is Y s h))
        (omega (arith, new_first Y s h, new_room Y s h, new_free Y s h));
    tiled = new_tiled.0;
    roots = λ r l.
        let k : r < length s.roots = omega (arith, new_roots Y s h) in
        rw (new_root Y s h r k) (renamed-value (at s.roots r) (λ p. reach_order (index Y (at s.roots r)) (D.from_root r k p)));
    values = λ i f m k l.
        let t = map_in_out (D.copy_index Y s) i (order Y s) (rw new_tiled.1 at m) in
        subst (λ x. kind Y s'.heap x ≡ Traced → f < field_count Y s'.heap x
        → is_value Y (headers Y s') (at s'.heap (x + 1 + f)) ≡ true)
        t.2 (λ k' l'. new_value t.0 f t.1 k' l') k l;
  }
