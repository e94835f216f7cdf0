-- Images: each word of a sound heap comes back from its image, so that an image tells all of a heap but its half and its size.
use Prim.Native.Nat.{ℕ, zero, suc, ◌+◌, ◌-◌, ◌≤◌, ◌<◌}
use native.Mathlib.Omega.{arith}
use native.Mathlib.Nat.{add-zero}
use mathlib.Core.Path.{◌≡◌, refl, sym, ap, ◌∙◌}
use mathlib.Core.Logic.{⊎_elim}
use mathlib.Core.Bool.{true, false}
use lib.ListN.{length, get_or, length-map}
use lib.Seq.{ext_get_or}
use Rattle.model.specs.declared.Kind.{Kind}
use Rattle.model.specs.declared.Kind.TheVariants.{Traced, Untraced}
use Rattle.model.specs.Collection.{still, field_cell, cells}
use Rattle.model.specs.Conditions as C
use Rattle.model.specs.Discovery.{packed, words_before}
use Rattle.model.specs.Headers.{Layout}
use Rattle.model.specs.Images.{ImageWord, word, offset, Image, image_value, image_cell, image}
use Rattle.model.specs.Objects.{address, index, kind, field_count, size}
use Rattle.model.specs.Settling.{TellsState}
use Rattle.model.specs.Soundness.{headers, is_value}
use Rattle.model.specs.Values.{is_address}
use Rattle.model.specs.Words.{State, at, first_word, free}
use Rattle.theory.proofs.Deciding.{headers_valid, sound_tests}
use Rattle.theory.proofs.Keeping.{tile}
use Rattle.theory.proofs.Lists.{get_d_map}
use Rattle.theory.proofs.Members.{In}
use Rattle.theory.proofs.Objects.{index-address, cells-length, field_cell_lem}
use Rattle.theory.proofs.Order.{free_in}
use Rattle.theory.proofs.Packed.{packed-at, words_before-fits}
use Rattle.theory.proofs.Soundness.{SoundTests, sound-zero}
use Rattle.theory.proofs.Tests.{by_test, never}
use Rattle.theory.proofs.Tiling.{headers-before, headers_cover, headers-words}
use Rattle.theory.proofs.Values.{value-header}
use Rattle.theory.proofs.WordSorts.{odd_no_address, code_no_address, parts_code}
use Rattle.demands.proofs.Same.{same_record_lem, same-state, first-same, words_same}

-- the word that an image's word stands for, in a half whose first word is b
abbrev back : Layout → ℕ → ImageWord → ℕ
back Y b (word w) = w
back Y b (offset k) = address Y (b + k)

module _ (Y : Layout) (s : State) (h : SoundTests Y s) where
  -- an address that is a value is that of a header
  valid_address : (w : ℕ) → C.Valid Y (headers Y s) w → is_address w ≡ true → address Y (index Y w) ≡ w
  valid_address w (C.odd o) p = never p (odd_no_address w o)
  valid_address w (C.null z) p = never p (rw z)
  valid_address w (C.code e l) p = never p (code_no_address w (parts_code w e l))
  valid_address w (C.header i m e) p = ap (λ z. address Y (index Y z)) e ∙ ap (address Y) (index-address Y i) ∙ sym e

  pub value-address : (w : ℕ) → is_value Y (headers Y s) w ≡ true → is_address w ≡ true → address Y (index Y w) ≡ w
  value-address w v p = valid_address w (headers_valid Y s h w v) p

  -- as many words of the used part stand before a header as before its object
  pub header-place : (i : ℕ) → In i (headers Y s) → first_word s + words_before (cells Y s.heap) (headers Y s) i ≡ i
  header-place i m =
      headers-before Y s.heap (free s) (free s - first_word s) (first_word s) i (free_in Y s h) h.tiled m

  -- a value comes back, and each word of an object
  value-back : (w : ℕ) → is_value Y (headers Y s) w ≡ true → back Y (first_word s) (image_value Y (first_word s) w) ≡ w
  unfolding image_value
  value-back w v =
      ⊎_elim
      (λ (p : is_address w ≡ true).
      let from = (tile Y s h (index Y w) (value-header Y (headers Y s) w v p)).from in
      let e : first_word s + (index Y w - first_word s) ≡ index Y w = omega arith in
      rw p (ap (address Y) e ∙ value-address w v p))
      (λ (p : is_address w ≡ false). rw p)
      (by_test (is_address w))

  field_back : (k : Kind) (i f : ℕ) → kind Y s.heap i ≡ k → In i (headers Y s) → f < field_count Y s.heap i
      → back Y (first_word s) (image_cell Y (first_word s) (field_cell k (at s.heap (i + 1 + f)))) ≡ at s.heap (i + 1 + f)
  field_back Traced i f e m l = value-back (at s.heap (i + 1 + f)) (h.values i f m e l)
  field_back Untraced i f e m l = refl

  pub within : (i : ℕ) → In i (headers Y s) → i + size Y s.heap i ≤ length s.heap
  within i m = omega (arith, (tile Y s h i m).within, free_in Y s h)

  cell_back : (i k : ℕ) → In i (headers Y s) → k < size Y s.heap i
      → back Y (first_word s) (image_cell Y (first_word s) (get_or (cells Y s.heap i) k (still 0))) ≡ at s.heap (i + k)
  cell_back i zero m l = ap (at s.heap) (sym (add-zero i))
  cell_back i (suc f) m l =
      let e : i + 1 + f ≡ i + suc f = omega arith in
      ap (λ c. back Y (first_word s) (image_cell Y (first_word s) c)) (field_cell_lem Y s.heap i f (within i m) (omega arith))
      ∙ field_back (kind Y s.heap i) i f refl m (omega arith)
      ∙ ap (at s.heap) e

  pub image-length : length (image Y s).words ≡ free s - first_word s
  unfolding image
  image-length =
      length-map (packed (cells Y s.heap) (headers Y s)) (image_cell Y (first_word s))
      ∙ headers-words Y s.heap (free s) (free s - first_word s) (first_word s) (free_in Y s h) h.tiled

  -- the image of a word of an object stands at the object's place
  pub image-at : (i k : ℕ) → In i (headers Y s) → k < size Y s.heap i
      → get_or (image Y s).words (i - first_word s + k) (word 0) ≡ image_cell Y (first_word s) (get_or (cells Y s.heap i) k (still 0))
  unfolding image
  image-at i k m l =
      let c = cells-length Y s.heap i (within i m) in
      let b = words_before-fits (cells Y s.heap) (headers Y s) i m in
      let p = header-place i m in
      let e : i - first_word s + k ≡ words_before (cells Y s.heap) (headers Y s) i + k = omega arith in
      get_d_map (image_cell Y (first_word s)) (packed (cells Y s.heap) (headers Y s)) (i - first_word s + k) (still 0) (word 0) (omega arith)
      ∙ ap (λ x. image_cell Y (first_word s) (get_or (packed (cells Y s.heap) (headers Y s)) x (still 0))) e
      ∙ ap (image_cell Y (first_word s)) (packed-at (cells Y s.heap) (still 0) (headers Y s) i k m (omega arith))

  -- so each word of the used part comes back
  used-back : (m : ℕ) → m < free s - first_word s
      → at s.heap (first_word s + m) ≡ back Y (first_word s) (get_or (image Y s).words m (word 0))
  used-back m l =
      let v = headers_cover Y s.heap (free s) (free s - first_word s) (first_word s) (first_word s + m) h.tiled (omega arith)
      (omega arith) in
      let f = (tile Y s h v.0 v.1).from in
      let a = v.2 in
      let b = v.3 in
      let e : v.0 - first_word s + (first_word s + m - v.0) ≡ m = omega arith in
      let d : v.0 + (first_word s + m - v.0) ≡ first_word s + m = omega arith in
      ap (at s.heap) (sym d)
      ∙ sym (ap (back Y (first_word s)) (image-at v.0 (first_word s + m - v.0) v.1 (omega arith))
      ∙ cell_back v.0 (first_word s + m - v.0) v.1 (omega arith))
      ∙ ap (λ x. back Y (first_word s) (get_or (image Y s).words x (word 0))) e

  -- and each root
  roots-length : length (image Y s).roots ≡ length s.roots
  unfolding image
  roots-length = length-map s.roots (image_value Y (first_word s))

  root-back : (r : ℕ) → r < length s.roots
      → at s.roots r ≡ back Y (first_word s) (get_or (image Y s).roots r (word 0))
  unfolding image
  root-back r l =
      sym (ap (back Y (first_word s)) (get_d_map (image_value Y (first_word s)) s.roots r 0 (word 0) l)
      ∙ value-back (at s.roots r) (h.roots r l))

-- two sound states whose images are one have as many roots,
pub roots-same : (Y : Layout) (s t : State) → SoundTests Y s → SoundTests Y t → image Y s ≡ image Y t → length s.roots ≡ length t.roots
roots-same Y s t h g same = sym (roots-length Y s h) ∙ ap (λ (m : Image). length m.roots) same ∙ roots-length Y t g

-- and, where their halves begin at one word, the same words and roots
module _ (Y : Layout) (s t : State) (h : SoundTests Y s) (g : SoundTests Y t) (same : image Y s ≡ image Y t)
    (first : first_word s ≡ first_word t) where
  same-free : free s ≡ free t
  same-free =
      let n : length (image Y s).words ≡ length (image Y t).words = ap (λ (m : Image). length m.words) same in
      omega (arith, image-length Y s h, image-length Y t g, h.shape.low, g.shape.low)

  used-same : (i : ℕ) → first_word s ≤ i → i < free s → at s.heap i ≡ at t.heap i
  used-same i a b =
      let m = i - first_word s in
      let e : first_word s + m ≡ i = omega arith in
      let d : first_word t + m ≡ i = omega arith in
      ap (at s.heap) (sym e) ∙ used-back Y s h m (omega arith)
      ∙ ap (λ (x : Image). back Y (first_word s) (get_or x.words m (word 0))) same
      ∙ ap (λ (x : ℕ). back Y x (get_or (image Y t).words m (word 0))) first
      ∙ sym (used-back Y t g m (omega (arith, same-free))) ∙ ap (at t.heap) d

  root-same : (r : ℕ) → r < length s.roots → at s.roots r ≡ at t.roots r
  root-same r l =
      root-back Y s h r l
      ∙ ap (λ (x : Image). back Y (first_word s) (get_or x.roots r (word 0))) same
      ∙ ap (λ (x : ℕ). back Y x (get_or (image Y t).roots r (word 0))) first
      ∙ sym (root-back Y t g r (let n = roots-same Y s t h g same in omega arith))

pub tells_state : (Y : Layout) → TellsState Y (image Y)
tells_state Y s t ok ok' half n text same =
    let h = sound_tests Y s ok in
    let g = sound_tests Y t ok' in
    let first = first-same s t half n in
    same-state s t
    (ext_get_or 0 s.heap t.heap n (λ i l.
    words_same s t first (same-free Y s t h g same first) (sound-zero Y s h) (sound-zero Y t g) (used-same Y s t h g same first) i))
    (ext_get_or 0 s.roots t.roots (roots-same Y s t h g same) (root-same Y s t h g same first))
    (same_record_lem s.«record» t.«record» half (same-free Y s t h g same first))
    text
