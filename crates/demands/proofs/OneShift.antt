-- `Shifted` leaves no choice: of a sound state there is one state with its objects S words on or back.
use Prim.Native.Nat.{ℕ, ◌+◌, ◌*◌, ◌-◌, ◌≤◌, ◌<◌}
use native.Mathlib.Omega.{arith}
use mathlib.Core.Path.{◌≡◌, sym, ap, ◌∙◌}
use mathlib.Core.Logic.{⊎_elim}
use mathlib.Core.Bool.{true, false}
use lib.ListN.{length}
use lib.Seq.{ext_get_or}
use Rattle.model.specs.declared.Half.{Half}
use Rattle.model.specs.declared.Half.TheVariants.{A, B}
use Rattle.model.specs.Headers.{Layout}
use Rattle.model.specs.Objects.{kind, field_count, size, field_index}
use Rattle.model.specs.Settling.{Across, WordsAcross, ValueShifted, Moved, Shifted, OneShift}
use Rattle.model.specs.Soundness.{headers}
use Rattle.model.specs.Values.{is_address}
use Rattle.model.specs.Words.{State, at, half_words_of, half_words, other, first_of, first_word, free}
use Rattle.theory.proofs.Deciding.{sound_tests}
use Rattle.theory.proofs.Keeping.{tile}
use Rattle.theory.proofs.Members.{In, in_mem}
use Rattle.theory.proofs.Soundness.{SoundTests}
use Rattle.theory.proofs.Tests.{by_test}
use Rattle.theory.proofs.Tiling.{headers_cover}
use Rattle.demands.proofs.Same.{same_record_lem, same-state, first-same, object-words, words_same}
use Rattle.demands.proofs.Settling.{across-one}

-- the place across from x
abbrev from : Half → ℕ → ℕ → ℕ
from A S x = x - S
from B S x = x + S

across_from : (h : Half) (S x : ℕ) → first_of S (other h) ≤ x → Across h S (from h S x) x × (first_of S h ≤ from h S x)
across_from A S x l = (omega arith, omega arith)
across_from B S x l = (omega arith, omega arith)

-- what is below an end is below the end across from it
across-below : (h : Half) (S x y e e' : ℕ) → Across h S y x → Across h S e e' → x < e' → y < e
across-below A S x y e e' a b l = omega arith
across-below B S x y e e' a b l = omega arith

-- as far before x as k is before y
across-part : (h : Half) (S x y k : ℕ) → Across h S y x → k ≤ y → first_of S h ≤ k → Across h S k (x - (y - k)) × (y - k ≤ x)
across-part A S x y k a l f = (omega arith, omega arith)
across-part B S x y k a l f = (omega arith, omega arith)

module _ (Y : Layout) (s : State) (h : SoundTests Y s) (t t' : State) (c : Shifted Y s t) (c' : Shifted Y s t') where
  abbrev half : Half
  half = s.«record».half

  abbrev S : ℕ
  S = half_words s.heap

  value_same : (w a b : ℕ) → ValueShifted s w a → ValueShifted s w b → a ≡ b
  value_same w a b x y =
      ⊎_elim
      (λ (p : is_address w ≡ true). across-one half (4 * S) w a b (x.moves p) (y.moves p))
      (λ (p : is_address w ≡ false). x.stays p ∙ sym (y.stays p))
      (by_test (is_address w))

  object-same : (i j k : ℕ) → Moved Y s i j → k < size Y s.heap i → at t.heap (j + k) ≡ at t'.heap (j + k)
  object-same i j k m l =
      object-words t.heap t'.heap (kind Y s.heap i) j (field_count Y s.heap i)
      (c.header i j m ∙ sym (c'.header i j m))
      (λ e f u. c.raw_field i j f m e u ∙ sym (c'.raw_field i j f m e u))
      (λ e f u. value_same (at s.heap (field_index i f)) _ _ (c.value_field i j f m e u) (c'.value_field i j f m e u))
      k l

  first-is : first_word t ≡ first_of (half_words s.heap) (other s.«record».half)
  first-is =
      ap (λ (n : ℕ). first_of (half_words_of n) t.«record».half) c.same_length
      ∙ ap (λ (x : Half). first_of (half_words s.heap) x) c.other_half

  -- a word that is across from one of an object
  across-same : (x y i : ℕ) → WordsAcross s y x → In i (headers Y s) → i ≤ y → y < i + size Y s.heap i → at t.heap x ≡ at t'.heap x
  across-same x y i a m l u =
      let p = across-part half S x y i a l (tile Y s h i m).from in
      let q = p.1 in
      let e : x - (y - i) + (y - i) ≡ x = omega arith in
      ap (at t.heap) (sym e)
      ∙ object-same i (x - (y - i)) (y - i) (record { object = in_mem i (headers Y s) m; across = p.0 }) (omega arith)
      ∙ ap (at t'.heap) e

  -- every word of the used part is one
  used-same : (x : ℕ) → first_word t ≤ x → x < free t → at t.heap x ≡ at t'.heap x
  used-same x l u =
      let a = across_from half S x (omega (arith, first-is)) in
      let n = across-below half S x (from half S x) (free s) (free t) a.0 c.free_index u in
      let v = headers_cover Y s.heap (free s) (free s - first_word s) (first_word s) (from half S x) h.tiled a.1 n in
      across-same x (from half S x) v.0 a.0 v.1 v.2 v.3

  one_shift_of : t ≡ t'
  one_shift_of =
      let same_half = c.other_half ∙ sym c'.other_half in
      let same_length = c.same_length ∙ sym c'.same_length in
      let same-free = across-one half S (free s) (free t) (free t') c.free_index c'.free_index in
      same-state t t'
      (ext_get_or 0 t.heap t'.heap same_length
      (λ i l. words_same t t' (first-same t t' same_half same_length) same-free c.cleared c'.cleared used-same i))
      (ext_get_or 0 t.roots t'.roots (c.root_count ∙ sym c'.root_count)
      (λ r l. let n : r < length s.roots = omega (arith, c.root_count) in
      value_same (at s.roots r) _ _ (c.root r n) (c'.root r n)))
      (same_record_lem t.«record» t'.«record» same_half same-free)
      (c.same_text ∙ sym c'.same_text)

pub one_shift : (Y : Layout) → OneShift Y
one_shift Y s t t' ok c c' = one_shift_of Y s (sound_tests Y s ok) t t' c c'
