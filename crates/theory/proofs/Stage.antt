-- A collection with the objects of an order copied and p words passed, word by word.
use Prim.Native.Nat.{ℕ, ◌+◌, ◌-◌, ◌≤◌, ◌<◌}
use native.Mathlib.Omega.{arith}
use mathlib.Core.Path.{◌≡◌, refl, sym, ap, ◌∙◌, subst}
use mathlib.Core.Logic.{⊎_elim}
use mathlib.Core.List.{List, [], ◌∷◌, ◌++◌, map}
use lib.ListN.{length, get_or, take, drop, set, length-append, length-take, length-drop, length-set, length-map}
use lib.ListN.{get_or-append}
use lib.Seq.{get_or-set_same, get_or-set_other, get_or-take, get_or-drop, get_or-append-add}
use borrow.Author.Tests.{ne_eqb}
use Rattle.model.specs.Collection.{Cell, still, filled, cells, settle}
use Rattle.model.specs.Discovery.{packed, words_before}
use Rattle.model.specs.During.{old_word, marked, stage}
use Rattle.model.specs.Headers.{Layout}
use Rattle.model.specs.Objects.{address}
use Rattle.model.specs.Soundness.{headers}
use Rattle.model.specs.Words.{State, at, half_words, other, first_of, first_word, other_first, free}
use Rattle.theory.proofs.Halves.{other-other, build-length, build_new, build_old, filled-length, filled_in}
use Rattle.theory.proofs.Halves.{filled_out}
use Rattle.theory.proofs.Lists.{get_d_map}
use Rattle.theory.proofs.Members.{In, Out, in-nil, in_other, out_cons}
use Rattle.theory.proofs.Order.{free_in}
use Rattle.theory.proofs.Shape.{first_in}
use Rattle.theory.proofs.Soundness.{SoundTests}
use Rattle.theory.proofs.Tests.{same?}
use Rattle.theory.proofs.Tiling.{headers_tile}

module _ (Y : Layout) where
  pub marked-length : (H o : List ℕ) (b : ℕ) (js : List ℕ) → length (marked Y H o b js) ≡ length H
  unfolding marked
  marked-length H o b [] = refl
  marked-length H o b (i ∷ js) = length-set (marked Y H o b js) i _ ∙ marked-length H o b js

  pub marked_in : (H o : List ℕ) (b : ℕ) (js : List ℕ) (j : ℕ) → j < length H → In j js
      → at (marked Y H o b js) j ≡ Y.mark (address Y (b + words_before (cells Y H) o j))
  unfolding marked
  marked_in H o b [] j l m = in-nil j m
  marked_in H o b (i ∷ js) j l m =
      ⊎_elim
      (λ (e : j ≡ i).
      subst (λ z. at (set (marked Y H o b js) i (Y.mark (address Y (b + words_before (cells Y H) o i)))) z
      ≡ Y.mark (address Y (b + words_before (cells Y H) o z))) (sym e)
      (get_or-set_same (marked Y H o b js) i (Y.mark (address Y (b + words_before (cells Y H) o i))) 0
      (let z = marked-length H o b js in omega arith)))
      (λ (d : j ≡ i → ⊥).
      get_or-set_other (marked Y H o b js) i j (Y.mark (address Y (b + words_before (cells Y H) o i))) 0 d
      ∙ marked_in H o b js j l (in_other j i js m (ne_eqb j i d)))
      (same? j i)

  pub marked_out : (H o : List ℕ) (b : ℕ) (js : List ℕ) (j : ℕ) → Out j js → at (marked Y H o b js) j ≡ at H j
  unfolding marked
  marked_out H o b [] j m = refl
  marked_out H o b (i ∷ js) j m =
      let p = out_cons j i js m in
      get_or-set_other (marked Y H o b js) i j (Y.mark (address Y (b + words_before (cells Y H) o i))) 0 p.0
      ∙ marked_out H o b js j p.1

-- the order names headers of a sound state, whose objects fit in a half
module _ (Y : Layout) (s : State) (h : SoundTests Y s) (o : List ℕ) (heads : (i : ℕ) → In i o → In i (headers Y s))
    (fit : length (packed (cells Y s.heap) o) ≤ half_words s.heap) (p : ℕ) where
  abbrev S : ℕ
  S = half_words s.heap

  abbrev cs : List Cell
  cs = packed (cells Y s.heap) o

  abbrev passed : List ℕ
  passed = map (settle Y s.heap o (other_first s)) (take p (packed (cells Y s.heap) o))

  abbrev coming : List ℕ
  coming = map old_word (drop p (packed (cells Y s.heap) o))

  abbrev old : List ℕ
  old = take (half_words s.heap) (drop (first_word s) (marked Y s.heap o (other_first s) o))

  abbrev d : State
  d = stage Y s o p

  words-length : length (passed ++ coming) ≡ length cs
  words-length =
      length-append passed coming
      ∙ omega (
        arith,
        length-map (take p cs) (settle Y s.heap o (other_first s)),
        length-take p cs,
        length-map (drop p cs) old_word,
        length-drop p cs,
      )

  words_fit : length (passed ++ coming) ≤ S
  words_fit = omega (arith, words-length, fit)

  old_length : length old ≡ S
  old_length =
      let b = first_in s h.shape in
      omega (
        arith,
        length-take (half_words s.heap) (drop (first_word s) (marked Y s.heap o (other_first s) o)),
        length-drop (first_word s) (marked Y s.heap o (other_first s) o),
        marked-length Y s.heap o (other_first s) o,
      )

  -- a word of the new half that is passed, one that is not, and one past the copies
  pub stage-passed : (m : ℕ) → m < p → m < length cs → at d.heap (other_first s + m)
      ≡ settle Y s.heap o (other_first s) (get_or cs m (still 0))
  unfolding stage
  stage-passed m l k =
      let n = length-take p cs in
      build_new (other s.«record».half) S m (filled S (passed ++ coming)) old
      (filled-length S (passed ++ coming) words_fit) old_length (omega (arith, words-length, words_fit))
      ∙ filled_in S m (passed ++ coming) (omega (arith, words-length))
      ∙ get_or-append passed coming 0 m (omega (arith, length-map (take p cs) (settle Y s.heap o (other_first s))))
      ∙ get_d_map (settle Y s.heap o (other_first s)) (take p cs) m (still 0) 0 (omega arith)
      ∙ ap (settle Y s.heap o (other_first s)) (get_or-take p cs m (still 0) l)

  pub stage_coming : (m : ℕ) → p ≤ m → m < length cs → at d.heap (other_first s + m) ≡ old_word (get_or cs m (still 0))
  unfolding stage
  stage_coming m l k =
      let n = length-take p cs in
      let a : length passed ≡ p = omega (arith, length-map (take p cs) (settle Y s.heap o (other_first s))) in
      let e : m ≡ length passed + (m - p) = omega arith in
      build_new (other s.«record».half) S m (filled S (passed ++ coming)) old
      (filled-length S (passed ++ coming) words_fit) old_length (omega (arith, words-length, words_fit))
      ∙ filled_in S m (passed ++ coming) (omega (arith, words-length))
      ∙ ap (λ z. at (passed ++ coming) z) e
      ∙ get_or-append-add passed coming (m - p) 0
      ∙ get_d_map old_word (drop p cs) (m - p) (still 0) 0 (omega (arith, length-drop p cs))
      ∙ ap old_word (get_or-drop p cs (m - p) (still 0) ∙ ap (λ z. get_or cs z (still 0)) (omega arith))

  pub stage-rest : (m : ℕ) → length cs ≤ m → m < S → at d.heap (other_first s + m) ≡ 0
  unfolding stage
  stage-rest m l k =
      build_new (other s.«record».half) S m (filled S (passed ++ coming)) old
      (filled-length S (passed ++ coming) words_fit) old_length k
      ∙ filled_out S m (passed ++ coming) (omega (arith, words-length)) k

  -- a word of the old half
  stage_old : (m : ℕ) → m < S
      → at d.heap (first_word s + m) ≡ at (marked Y s.heap o (other_first s) o) (first_word s + m)
  unfolding stage
  stage_old m k =
      ap (λ z. at d.heap (first_of S z + m)) (sym (other-other s.«record».half))
      ∙ build_old (other s.«record».half) S m (filled S (passed ++ coming)) old
      (filled-length S (passed ++ coming) words_fit) old_length k
      ∙ get_or-take S (drop (first_word s) (marked Y s.heap o (other_first s) o)) m 0 k
      ∙ get_or-drop (first_word s) (marked Y s.heap o (other_first s) o) m 0

  pub stage-header : (i : ℕ) → In i o
      → at d.heap i ≡ Y.mark (address Y (other_first s + words_before (cells Y s.heap) o i))
  stage-header i m =
      let t = headers_tile Y s.heap (free s) (free s - first_word s) (first_word s) i h.tiled (heads i m) in
      let e : first_word s + (i - first_word s) ≡ i = omega (arith, t.from) in
      let u : i < first_word s + S = omega (arith, t.within, h.shape.high) in
      ap (λ z. at d.heap z) (sym e) ∙ stage_old (i - first_word s) (omega (arith, t.from))
      ∙ ap (λ z. at (marked Y s.heap o (other_first s) o) z) e
      ∙ marked_in Y s.heap o (other_first s) o i (omega (arith, free_in Y s h, t.within)) m

  pub stage-kept : (j : ℕ) → first_word s ≤ j → j < first_word s + S → Out j o → at d.heap j ≡ at s.heap j
  stage-kept j l k m =
      let e : first_word s + (j - first_word s) ≡ j = omega arith in
      ap (λ z. at d.heap z) (sym e) ∙ stage_old (j - first_word s) (omega arith)
      ∙ ap (λ z. at (marked Y s.heap o (other_first s) o) z) e
      ∙ marked_out Y s.heap o (other_first s) o j m

  pub stage-length : length d.heap ≡ length s.heap
  unfolding stage
  stage-length =
      build-length (other s.«record».half) (filled S (passed ++ coming)) old
      ∙ omega (arith, filled-length S (passed ++ coming) words_fit, old_length, h.shape.odd)
