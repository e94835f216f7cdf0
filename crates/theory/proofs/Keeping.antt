-- Changes that keep a state sound: a root set to a value, a field stored.
use Prim.Native.Nat.{ℕ, ◌+◌, ◌*◌, ◌-◌, ◌≤◌, ◌<◌}
use native.Mathlib.Omega.{arith}
use mathlib.Core.Path.{◌≡◌, sym, ap, ◌∙◌}
use mathlib.Core.Logic.{◌⊎◌, inl, inr, ⊎_elim}
use mathlib.Core.Bool.{true}
use mathlib.Core.List.{List}
use lib.ListN.{length, set, length-set}
use lib.Seq.{get_or-set_same, get_or-set_other}
use Rattle.model.specs.declared.Kind.TheVariants.{Traced}
use Rattle.model.specs.Changes.{with_root, with_word}
use Rattle.model.specs.Headers.{Layout}
use Rattle.model.specs.Objects.{kind, field_count}
use Rattle.model.specs.Soundness.{tiles, headers_from, headers, is_value}
use Rattle.model.specs.Words.{State, with_heap, at, half_words_of, half_words, other, first_of, first_word, other_first}
use Rattle.model.specs.Words.{free}
use Rattle.theory.proofs.Members.{In}
use Rattle.theory.proofs.Retiling.{tiles-same}
use Rattle.theory.proofs.Shape.{first_in, halves-apart}
use Rattle.theory.proofs.Soundness.{SoundTests}
use Rattle.theory.proofs.Tests.{decide, same?}
use Rattle.theory.proofs.Tiling.{Tile, headers_tile, headers-apart}

module _ (Y : Layout) (s : State) (h : SoundTests Y s) where
  pub tile : (i : ℕ) → In i (headers Y s) → Tile Y s.heap (first_word s) (free s) i
  tile i m = headers_tile Y s.heap (free s) (free s - first_word s) (first_word s) i h.tiled m

  -- a field's place is no header's
  pub field_no_header : (i f j : ℕ) → In i (headers Y s) → f < field_count Y s.heap i → In j (headers Y s) → j ≡ i + 1 + f
      → ⊥
  field_no_header i f j a l b e =
      let g = headers-apart Y s.heap (free s) (free s - first_word s) (first_word s) i j h.tiled a b (omega arith) in
      omega arith

  -- a root gets a value
  pub root-sound : (r w : ℕ) → is_value Y (headers Y s) w ≡ true → SoundTests Y (with_root s r w)
  root-sound r w v = record {
    shape = record {
      odd = h.shape.odd;
      pos = h.shape.pos;
      small = h.shape.small;
      few = rw (length-set s.roots r w) h.shape.few;
      low = h.shape.low;
      high = h.shape.high;
    };
    null = h.null;
    idle = h.idle;
    rest = h.rest;
    tiled = h.tiled;
    roots = λ k l. ⊎_elim
        (λ (e : k ≡ r).
        let b : r < length s.roots = let z = length-set s.roots r w in omega arith in
        rw (e, get_or-set_same s.roots r w 0 b) v)
        (λ (n : k ≡ r → ⊥). rw (get_or-set_other s.roots r k w 0 n) (h.roots k (let z = length-set s.roots r w in omega arith)))
        (same? k r);
    values = h.values;
  }

  -- the words between the headers and the free index change
  module _ (H' : List ℕ) (len : length H' ≡ length s.heap)
      (kept : (j : ℕ) → In j (headers Y s) → at H' j ≡ at s.heap j)
      (outside : (j : ℕ) → (j < first_word s) ⊎ (free s ≤ j) → at H' j ≡ at s.heap j) where
    abbrev with : State
    with = with_heap H' s

    with_room : half_words H' ≡ half_words s.heap
    with_room = ap half_words_of len

    with_base : first_word with ≡ first_word s
    with_base = ap (λ x. first_of x s.«record».half) with_room

    with_target : other_first with ≡ other_first s
    with_target = ap (λ x. first_of x (other s.«record».half)) with_room

    both : (tiles Y H' (free s) (free s - first_word s) (first_word s) ≡ true)
        × (headers_from Y H' (free s) (free s - first_word s) (first_word s) ≡ headers Y s)
    both = tiles-same Y s.heap H' (free s) (free s - first_word s) (first_word s) h.tiled kept

    pub with_headers : headers Y with ≡ headers Y s
    with_headers = ap (λ b. headers_from Y H' (free s) (free s - b) b) with_base ∙ both.1

    pub with_sound : ((i f : ℕ) → In i (headers Y s) → kind Y s.heap i ≡ Traced → f < field_count Y s.heap i
        → is_value Y (headers Y s) (at H' (i + 1 + f)) ≡ true)
        → SoundTests Y with
    with_sound vals = record {
      shape = record {
        odd = len ∙ h.shape.odd ∙ ap (λ x. 2 * x + 1) (sym with_room);
        pos = rw with_room h.shape.pos;
        small = rw with_room h.shape.small;
        few = h.shape.few;
        low = rw with_base h.shape.low;
        high = rw (with_base, with_room) h.shape.high;
      };
      null = outside 0 (inl (let b = first_in s h.shape in omega arith)) ∙ h.null;
      idle = λ i l k.
          let l' : other_first s ≤ i = rw with_target at l in
          let k' : i < other_first s + half_words s.heap = rw (with_target, with_room) at k in
          outside i (⊎_elim inl (λ (x : first_word s + half_words s.heap ≤ i). inr (omega (arith, h.shape.high)))
          (halves-apart s i l' k')) ∙ h.idle i l' k';
      rest = λ i l k.
          let k' : i < first_word s + half_words s.heap = rw (with_base, with_room) at k in
          outside i (inr l) ∙ h.rest i l k';
      tiled = rw with_base both.0;
      roots = λ r l. rw with_headers (h.roots r l);
      values = λ i f m k l.
          let m' : In i (headers Y s) = rw with_headers at m in
          let e = kept i m' in
          rw with_headers (vals i f m' (sym (ap (λ x. Y.kind_of x) e) ∙ k) (let c = ap (λ x. Y.count_of x) e in omega arith));
    }

  -- a field's place is one object's
  pub one-object : (i f j g : ℕ) → In i (headers Y s) → f < field_count Y s.heap i → In j (headers Y s)
      → g < field_count Y s.heap j → j + 1 + g ≡ i + 1 + f → j ≡ i
  one-object i f j g a x b y e =
      ⊎_elim
      (λ (l : j < i).
      let p = headers-apart Y s.heap (free s) (free s - first_word s) (first_word s) j i h.tiled b a l in
      absurd (omega arith))
      (λ (l : i ≤ j).
      ⊎_elim
      (λ (k : i < j).
      let p = headers-apart Y s.heap (free s) (free s - first_word s) (first_word s) i j h.tiled a b k in
      absurd (omega arith))
      (λ (k : j ≤ i). omega arith)
      (decide i j))
      (decide j i)

  -- a field is stored
  pub word_sound : (i f w : ℕ) → In i (headers Y s) → f < field_count Y s.heap i
      → (kind Y s.heap i ≡ Traced → is_value Y (headers Y s) w ≡ true)
      → SoundTests Y (with_word s (i + 1 + f) w)
  word_sound i f w m l v =
      with_sound (set s.heap (i + 1 + f) w) (length-set s.heap (i + 1 + f) w)
      (λ j b. get_or-set_other s.heap (i + 1 + f) j w 0 (field_no_header i f j m l b))
      (λ j c. get_or-set_other s.heap (i + 1 + f) j w 0
      (λ e. let t = (tile i m).from in let u = (tile i m).within in
      ⊎_elim (λ (x : j < first_word s). omega arith) (λ (x : free s ≤ j). omega arith) c))
      (λ j g b k x.
      ⊎_elim
      (λ (e : j + 1 + g ≡ i + 1 + f).
      let q : j ≡ i = one-object i f j g m l b x e in
      let y : i + 1 + f < length s.heap = let u = (tile i m).within in let z = first_in s h.shape in omega (arith, h.shape.high) in
      rw (e, get_or-set_same s.heap (i + 1 + f) w 0 y) (v (ap (λ z. kind Y s.heap z) (sym q) ∙ k)))
      (λ (n : j + 1 + g ≡ i + 1 + f → ⊥).
      rw (get_or-set_other s.heap (i + 1 + f) (j + 1 + g) w 0 n) (h.values j g b k x))
      (same? (j + 1 + g) (i + 1 + f)))

  pub word-headers : (i f w : ℕ) → In i (headers Y s) → f < field_count Y s.heap i
      → headers Y (with_word s (i + 1 + f) w) ≡ headers Y s
  word-headers i f w m l =
      with_headers (set s.heap (i + 1 + f) w) (length-set s.heap (i + 1 + f) w)
      (λ j b. get_or-set_other s.heap (i + 1 + f) j w 0 (field_no_header i f j m l b))
      (λ j c. get_or-set_other s.heap (i + 1 + f) j w 0
      (λ e. let t = (tile i m).from in let u = (tile i m).within in
      ⊎_elim (λ (x : j < first_word s). omega arith) (λ (x : free s ≤ j). omega arith) c))
