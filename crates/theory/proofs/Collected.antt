-- What a collection leaves, word by word.
use Prim.Native.Nat.{ℕ, zero, suc, ◌+◌, ◌-◌, ◌≤◌, ◌<◌}
use native.Mathlib.Omega.{arith}
use native.Mathlib.Nat.{add-zero}
use mathlib.Core.Path.{◌≡◌, refl, sym, ap, ◌∙◌}
use mathlib.Core.Bool.{true}
use mathlib.Core.List.{List, map}
use lib.ListN.{length, get_or, replicate, length-map, length-replicate, get_or-replicate}
use Rattle.model.specs.declared.Half.{Half}
use Rattle.model.specs.declared.Half.TheVariants.{A, B}
use Rattle.model.specs.Collection.{Cell, still, field_cell, build, filled, cells, order, live, counts, rename, settle, copied}
use Rattle.model.specs.Collection.{collected}
use Rattle.model.specs.Demand2 as D
use Rattle.model.specs.Discovery.{packed, words_before}
use Rattle.model.specs.Headers.{Layout}
use Rattle.model.specs.Limits.{max_half, max_roots}
use Rattle.model.specs.Objects.{kind, field_count, size}
use Rattle.model.specs.Words.{State, at, half_words_of, half_words, other, first_of, first_word, other_first, free}
use Rattle.theory.proofs.Counting.{words-most, passed-most, all-met}
use Rattle.theory.proofs.Halves.{other-other, build-length, build_new, build_old, filled-length, filled_in}
use Rattle.theory.proofs.Halves.{filled_out}
use Rattle.theory.proofs.Lists.{get_d_map}
use Rattle.theory.proofs.Members.{In}
use Rattle.theory.proofs.Objects.{cells-length, field_cell_lem}
use Rattle.theory.proofs.Order.{free_in, order-fits, order-header}
use Rattle.theory.proofs.Packed.{packed-at, words_before-fits}
use Rattle.theory.proofs.Soundness.{SoundTests}
use Rattle.theory.proofs.Tiling.{headers_tile}

module _ (Y : Layout) (s : State) (h : SoundTests Y s) where
  abbrev S : ℕ
  S = half_words s.heap

  abbrev cs : List Cell
  cs = packed (cells Y s.heap) (order Y s)

  abbrev s' : State
  s' = collected Y s

  abbrev ws : List ℕ
  ws = map (settle Y s.heap (order Y s) (other_first s)) (packed (cells Y s.heap) (order Y s))

  pub live-is : live Y s ≡ length (packed (cells Y s.heap) (order Y s))
  unfolding live
  live-is = refl

  -- no more addresses than roots and live words
  pub addresses-few : (counts Y s).addresses ≤ max_roots + max_half
  unfolding counts
  addresses-few =
      omega (
        arith,
        words-most Y s.roots,
        all-met Y s.heap (order Y s) (length cs) (omega arith),
        passed-most Y s.heap (order Y s) (length cs),
        order-fits Y s h,
        h.shape.few,
        h.shape.small,
      )

  ws_length : length ws ≡ length cs
  ws_length = length-map cs (settle Y s.heap (order Y s) (other_first s))

  ws_fits : length ws ≤ S
  ws_fits = omega (arith, ws_length, order-fits Y s h)

  pub new_length : length s'.heap ≡ length s.heap
  unfolding copied
  new_length =
      build-length (other s.«record».half) (filled S ws) (replicate S 0)
      ∙ omega (arith, filled-length S ws ws_fits, length-replicate S (zero), h.shape.odd)

  pub new_room : half_words s'.heap ≡ S
  new_room = ap half_words_of new_length

  pub new_first : first_word s' ≡ other_first s
  unfolding copied
  new_first = ap (λ x. first_of x (other s.«record».half)) new_room

  pub new_other : other_first s' ≡ first_word s
  unfolding copied
  new_other =
      ap (λ x. first_of x (other (other s.«record».half))) new_room
      ∙ ap (λ x. first_of S x) (other-other s.«record».half)

  pub new_half : s'.«record».half ≡ other s.«record».half
  unfolding copied
  new_half = refl

  pub new_free : free s' ≡ other_first s + live Y s
  unfolding copied
  new_free = ap (λ x. other_first s + x) (ws_length ∙ sym live-is)

  -- each word of the new half, below the copies' end and past it
  pub new_at : (m : ℕ) → m < length cs → at s'.heap (other_first s + m)
      ≡ settle Y s.heap (order Y s) (other_first s) (get_or cs m (still 0))
  unfolding copied
  new_at m l =
      build_new (other s.«record».half) S m (filled S ws) (replicate S 0) (filled-length S ws ws_fits)
      (length-replicate S 0) (omega (arith, order-fits Y s h))
      ∙ filled_in S m ws (omega (arith, ws_length))
      ∙ get_d_map (settle Y s.heap (order Y s) (other_first s)) cs m (still 0) 0 l

  pub new_rest : (m : ℕ) → length cs ≤ m → m < S → at s'.heap (other_first s + m) ≡ 0
  unfolding copied
  new_rest m l k =
      build_new (other s.«record».half) S m (filled S ws) (replicate S 0) (filled-length S ws ws_fits)
      (length-replicate S 0) k
      ∙ filled_out S m ws (omega (arith, ws_length)) k

  pub new_old : (m : ℕ) → m < S → at s'.heap (first_word s + m) ≡ 0
  unfolding copied
  new_old m k =
      ap (λ x. at s'.heap (first_of S x + m)) (sym (other-other s.«record».half))
      ∙ build_old (other s.«record».half) S m (filled S ws) (replicate S 0) (filled-length S ws ws_fits) (length-replicate S 0) k
      ∙ get_or-replicate S m 0 0 k

  pub new_null : at s'.heap 0 ≡ 0
  unfolding copied
  new_null = go (other s.«record».half)
    where
      go : (f : Half) → at (build f (filled S ws) (replicate S 0)) 0 ≡ 0
      go A = refl
      go B = refl

  -- where each object's words are
  pub order_tile : (i : ℕ) → In i (order Y s)
      → (i + size Y s.heap i ≤ length s.heap) × (Y.is_header (at s.heap i) ≡ true)
  order_tile i m =
      let t = headers_tile Y s.heap (free s) (free s - first_word s) (first_word s) i h.tiled (order-header Y s h i m) in
      (omega (arith, t.within, free_in Y s h), t.clear)

  pub new_cell : (i k : ℕ) → In i (order Y s) → k < size Y s.heap i
      → at s'.heap (D.copy_index Y s i + k) ≡ settle Y s.heap (order Y s) (other_first s) (get_or (cells Y s.heap i) k (still 0))
  new_cell i k m l =
      let c = cells-length Y s.heap i (order_tile i m).0 in
      let b = words_before-fits (cells Y s.heap) (order Y s) i m in
      let e : D.copy_index Y s i + k ≡ other_first s + (words_before (cells Y s.heap) (order Y s) i + k) = omega arith in
      ap (λ x. at s'.heap x) e
      ∙ new_at (words_before (cells Y s.heap) (order Y s) i + k) (omega arith)
      ∙ ap (settle Y s.heap (order Y s) (other_first s)) (packed-at (cells Y s.heap) (still 0) (order Y s) i k m (omega arith))

  pub new_header : (i : ℕ) → In i (order Y s) → at s'.heap (D.copy_index Y s i) ≡ at s.heap i
  new_header i m = ap (λ x. at s'.heap x) (sym (add-zero (D.copy_index Y s i))) ∙ new_cell i 0 m (omega arith)

  pub new_field : (i f : ℕ) → In i (order Y s) → f < field_count Y s.heap i
      → at s'.heap (D.copy_index Y s i + 1 + f) ≡ settle Y s.heap (order Y s) (other_first s)
      (field_cell (kind Y s.heap i) (at s.heap (i + 1 + f)))
  new_field i f m l =
      let e : D.copy_index Y s i + 1 + f ≡ D.copy_index Y s i + suc f = omega arith in
      ap (λ x. at s'.heap x) e
      ∙ new_cell i (suc f) m (omega arith)
      ∙ ap (settle Y s.heap (order Y s) (other_first s)) (field_cell_lem Y s.heap i f (order_tile i m).0 l)

  pub new_root : (r : ℕ) → r < length s.roots
      → at s'.roots r ≡ rename Y s.heap (order Y s) (other_first s) (at s.roots r)
  unfolding copied
  new_root r l = get_d_map (rename Y s.heap (order Y s) (other_first s)) s.roots r 0 0 l

  pub new_roots : length s'.roots ≡ length s.roots
  unfolding copied
  new_roots = length-map s.roots (rename Y s.heap (order Y s) (other_first s))

-- the bytes that are lent stay
pub new_text : (Y : Layout) (s : State) → (collected Y s).text ≡ s.text
unfolding copied
new_text Y s = refl
