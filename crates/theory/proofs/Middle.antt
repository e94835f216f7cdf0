-- What the middle of a collection rests on: the words of the objects that are copied, what one more visit changes, and that
-- past the last word nothing changes.
use Prim.Native.Nat.{ℕ, zero, suc, ◌+◌, ◌-◌, ◌≤◌, ◌<◌}
use native.Mathlib.Nat.{add-zero}
use native.Mathlib.Omega.{arith}
use mathlib.Core.Path.{◌≡◌, refl, sym, ap, ◌∙◌, subst}
use mathlib.Core.Logic.{◌⊎◌, inl, inr, ⊎_elim}
use mathlib.Core.Bool.{true, false}
use mathlib.Core.List.{List, [], ◌∷◌, ◌++◌, map, append-nil}
use mathlib.Core.Option.{none, some}
use lib.ListN.{length, get_or, drop_of_length-le}
use lib.Seq.{take_all}
use Rattle.model.specs.declared.Half.{Half}
use Rattle.model.specs.declared.Half.TheVariants.{A, B}
use Rattle.model.specs.declared.Kind.{Kind}
use Rattle.model.specs.declared.Kind.TheVariants.{Traced, Untraced}
use Rattle.model.specs.Collection.{Cell, still, build, field_cell, cells, word_leads, cell_leads, order_at, rename}
use Rattle.model.specs.Discovery.{visit, packed, words_before, found}
use Rattle.model.specs.During.{old_word, stage, during}
use Rattle.model.specs.Headers.{Layout}
use Rattle.model.specs.Objects.{address, index, kind, size}
use Rattle.model.specs.Soundness.{headers}
use Rattle.model.specs.Values.{is_address}
use Rattle.model.specs.Words.{State, at, half_words, other, first_of, first_word, other_first, free}
use Rattle.theory.proofs.Discovery.{found_later, found-still}
use Rattle.theory.proofs.Keeping.{tile}
use Rattle.theory.proofs.Members.{In, Out, Distinct}
use Rattle.theory.proofs.Objects.{field_cell_lem}
use Rattle.theory.proofs.Order.{free_in}
use Rattle.theory.proofs.Packed.{packed-append, packed-within, find}
use Rattle.theory.proofs.Soundness.{SoundTests}
use Rattle.theory.proofs.Tests.{same?}
use Rattle.theory.proofs.Tiling.{headers-apart, headers-words}
use Rattle.theory.proofs.Values.{value-header, cell_leads_lem}
use Rattle.theory.proofs.Visits.{Starts}

-- one half lies before the other
pub halves-ordered : (s : State)
    → (first_word s + half_words s.heap ≤ other_first s) ⊎ (other_first s + half_words s.heap ≤ first_word s)
halves-ordered s = go s.«record».half (half_words s.heap)
  where
    go : (f : Half) (S : ℕ) → (first_of S f + S ≤ first_of S (other f)) ⊎ (first_of S (other f) + S ≤ first_of S f)
    go A S = inl (omega arith)
    go B S = inr (omega arith)

build-null : (f : Half) (new old : List ℕ) → at (build f new old) 0 ≡ 0
build-null A new old = refl
build-null B new old = refl

-- ---- one more visit

module _ (o : List ℕ) (i : ℕ) where
  pub visit-again : In i o → visit o (some i) ≡ o
  unfolding visit
  visit-again m = rw m

  pub visit_new : Out i o → visit o (some i) ≡ o ++ (i ∷ [])
  unfolding visit
  visit_new m = rw m

pub visit-none : (o : List ℕ) → visit o none ≡ o
unfolding visit
visit-none o = refl

module _ (Y : Layout) (w : ℕ) where
  pub plain-leads : is_address w ≡ false → word_leads Y w ≡ none
  unfolding word_leads
  plain-leads q = rw q

  module _ (H o : List ℕ) (b : ℕ) where
    pub rename-plain : is_address w ≡ false → rename Y H o b w ≡ w
    unfolding rename
    rename-plain q = rw q

    pub rename-address : is_address w ≡ true → rename Y H o b w ≡ address Y (b + words_before (cells Y H) o (index Y w))
    unfolding rename
    rename-address q = rw q

-- ---- the words of an object

old_field : (k : Kind) (w : ℕ) → old_word (field_cell k w) ≡ w
old_field Traced w = refl
old_field Untraced w = refl

module _ (Y : Layout) (H : List ℕ) where
  -- are those of its cells
  pub cell_word : (i d : ℕ) → i + size Y H i ≤ length H → d < size Y H i
      → old_word (get_or (cells Y H i) d (still 0)) ≡ at H (i + d)
  cell_word i zero l b = ap (at H) (sym (add-zero i))
  cell_word i (suc f) l b =
      ap old_word (field_cell_lem Y H i f l (omega arith)) ∙ old_field (kind Y H i) (at H (i + 1 + f)) ∙ ap (at H) (omega arith)

  pub packed_snoc : (o : List ℕ) (i : ℕ) → packed (cells Y H) (o ++ (i ∷ [])) ≡ packed (cells Y H) o ++ cells Y H i
  unfolding packed
  packed_snoc o i =
      packed-append (cells Y H) o (i ∷ []) ∙ ap (λ (z : List Cell). packed (cells Y H) o ++ z) (append-nil (cells Y H i))

-- ---- the objects of a sound heap

module _ (Y : Layout) (s : State) (h : SoundTests Y s) where
  abbrev H : List ℕ
  H = s.heap

  abbrev S : ℕ
  S = half_words s.heap

  pub header-within : (i : ℕ) → In i (headers Y s) → i + size Y H i ≤ length H
  header-within i m = omega (arith, (tile Y s h i m).within, free_in Y s h)

  -- each word of an object is one of the current half, and so none of the other
  pub header-half : (i d : ℕ) → In i (headers Y s) → d < size Y H i → (first_word s ≤ i + d) × (i + d < first_word s + S)
  header-half i d m l = (omega (arith, (tile Y s h i m).from), omega (arith, (tile Y s h i m).within, h.shape.high))

  pub header-outside : (i d : ℕ) → In i (headers Y s) → d < size Y H i → (i + d < other_first s) ⊎ (other_first s + S ≤ i + d)
  header-outside i d m l =
      let a = header-half i d m l in
      ⊎_elim (λ (e : first_word s + S ≤ other_first s). inl (omega (arith, a.1)))
      (λ (e : other_first s + S ≤ first_word s). inr (omega (arith, a.0))) (halves-ordered s)

  -- and no other object's header
  pub header-alone : (i d : ℕ) → In i (headers Y s) → In (i + d) (headers Y s) → d < size Y H i → d ≡ 0
  header-alone i d m n l =
      ⊎_elim (λ (e : d ≡ 0). e)
      (λ (e : d ≡ 0 → ⊥).
      let z = headers-apart Y H (free s) (free s - first_word s) (first_word s) i (i + d) h.tiled m n (omega arith) in
      absurd (omega arith))
      (same? d 0)

  module _ (o : List ℕ) (heads : (i : ℕ) → In i o → In i (headers Y s)) where
    -- distinct objects fit in a half
    pub distinct_fits : Distinct o → length (packed (cells Y H) o) ≤ S
    distinct_fits u =
        let w = headers-words Y H (free s) (free s - first_word s) (first_word s) (free_in Y s h) h.tiled in
        let p = packed-within (cells Y H) o (headers Y s) u heads in
        omega (arith, h.shape.high)

    -- what a word of theirs leads to is an object
    pub cell_header : (j i : ℕ) → j < length (packed (cells Y H) o)
        → cell_leads Y (get_or (packed (cells Y H) o) j (still 0)) ≡ some i → In i (headers Y s)
    cell_header j i l e =
        let g = find (cells Y H) (still 0) o j l in
        let m = heads g.0 g.2 in
        let c = cell_leads_lem Y H g.0 g.1 i (header-within g.0 m) (ap (cell_leads Y) (sym g.4) ∙ e) in
        subst (λ (x : ℕ). In x (headers Y s)) c.to
        (value-header Y (headers Y s) (at H (g.0 + 1 + c.field)) (h.values g.0 c.field m c.traced c.under) c.pointer)

-- ---- the state with p words passed, as p grows

module _ (Y : Layout) (s : State) where
  pub stage-null : (o : List ℕ) (p : ℕ) → at (stage Y s o p).heap 0 ≡ 0
  unfolding stage
  stage-null o p = build-null (other s.«record».half) _ _

  pub order_later : (p q : ℕ) → p ≤ q → Starts (order_at Y s p) (order_at Y s q)
  unfolding order_at
  order_later p q l = found_later (cells Y s.heap) (still 0) (cell_leads Y) (map (word_leads Y) s.roots) p q l

  -- once all words of the copies are passed nothing changes
  stage-still : (o : List ℕ) (q p : ℕ) → length (packed (cells Y s.heap) o) ≤ q → q ≤ p → stage Y s o q ≡ stage Y s o p
  unfolding stage
  stage-still o q p l b =
      let P = packed (cells Y s.heap) o in
      rw (take_all q P l, take_all p P (omega arith), drop_of_length-le P {i = q} l, drop_of_length-le P {i = p} (omega arith))

  order-still : (q p : ℕ) → length (packed (cells Y s.heap) (order_at Y s q)) ≤ q → q ≤ p → order_at Y s p ≡ order_at Y s q
  unfolding order_at
  order-still q p l b =
      let e : (p - q) + q ≡ p = omega arith in
      ap (found (cells Y s.heap) (still 0) (cell_leads Y) (map (word_leads Y) s.roots)) (sym e)
      ∙ found-still (cells Y s.heap) (still 0) (cell_leads Y) (map (word_leads Y) s.roots) refl q (p - q) l

  pub during-still : (q p : ℕ) → length (packed (cells Y s.heap) (order_at Y s q)) ≤ q → q ≤ p
      → during Y s q ≡ during Y s p
  during-still q p l b =
      stage-still (order_at Y s q) q p l b ∙ ap (λ (o : List ℕ). stage Y s o p) (sym (order-still q p l b))
