-- What the marks are: they stand where the headers of the tiling do and nowhere else, and the used words stay. For any layout.
use Prim.Native.Nat.{ℕ, zero, suc, ◌+◌, ◌≤◌, ◌<◌}
use native.Mathlib.Omega.{arith}
use mathlib.Core.Path.{◌≡◌, refl, sym, ap, ◌∙◌}
use mathlib.Core.Logic.{inr, ⊎_elim}
use mathlib.Core.Bool.{Bool, true, false, ◌&&◌, ◌||◌}
use mathlib.Core.List.{List}
use lib.Dec.{eqb, ltb}
use lib.ListN.{length, set, drop, length-set, length-take, length-drop}
use lib.Seq.{get_or-set_other, get_or-take, get_or-drop, ext_get_or}
use borrow.Author.Tests.{ltb-true, ltb-false, ne_eqb}
use Rattle.model.specs.Discovery.{mem}
use Rattle.model.specs.Headers.{Layout}
use Rattle.model.specs.Objects.{size, field_count, field_words}
use Rattle.model.specs.Soundness.{tiles, headers_from}
use Rattle.model.specs.Words.{at}
use Rattle.theory.proofs.Retiling.{tiles-same}
use Rattle.theory.proofs.Tests.{by_test}
use Rattle.theory.proofs.Tiling.{tiles-step, headers_tile}
use Rattle.theory.proofs.Walks.{tiles-past}
use Rattle.runs.specs.Runs.{run}
use Rattle.checker_marks.specs.declared.Part.{Part}
use Rattle.checker_marks.specs.Marks.{used_words, mark_at, HoldsMarks, mark, is_marked, marks_of, Marking, mark_headers}
use Rattle.checker_marks.specs.Marks.{is_tiled_from}
use Rattle.checker_marks.proofs.MarkBits.{mark-one}
use Rattle.checker_marks.proofs.Turns.{mark-ended}

or_turned : (a b c : Bool) → (a || (b || c)) ≡ ((b || a) || c)
or_turned true true c = refl
or_turned true false c = refl
or_turned false true c = refl
or_turned false false c = refl

module _ (Y : Layout) (p : Part) where
  -- the used words are the same
  abbrev pub Agree : List ℕ → List ℕ → Type 0
  Agree H' H = (j : ℕ) → p.first.0 ≤ j → j < p.free.0 → at H' j ≡ at H j

  -- no used word holds marks
  abbrev pub UsedApart : Type 0
  UsedApart = (k : ℕ) → p.first.0 ≤ k → k < p.free.0 → HoldsMarks p k → ⊥

  -- the marks of used words stand where marks may
  mark-there : (i k : ℕ) → p.first.0 ≤ i → i < p.free.0 → (HoldsMarks p k → ⊥) → k ≡ mark_at p i → ⊥
  mark-there i k l m o e = o (inr (omega arith, omega arith))

  pub mark-length : (n : ℕ) (H : List ℕ) (i : ℕ) → length (mark_headers Y n H p i).heap ≡ length H
  unfolding mark_headers
  mark-length zero H i = refl
  mark-length (suc n) H i =
      ⊎_elim
      (λ (e : (ltb i p.free.0 && Y.is_header (at H i)) ≡ true).
      rw e (mark-length n (mark H p i) (i + size Y H i) ∙ length-set H (mark_at p i) _))
      (λ (e : (ltb i p.free.0 && Y.is_header (at H i)) ≡ false). rw e)
      (by_test (ltb i p.free.0 && Y.is_header (at H i)))

  -- only words that hold marks change
  pub mark-outside : (n : ℕ) (H : List ℕ) (i k : ℕ) → p.first.0 ≤ i → (HoldsMarks p k → ⊥)
      → at (mark_headers Y n H p i).heap k ≡ at H k
  unfolding mark_headers
  mark-outside zero H i k l o = refl
  mark-outside (suc n) H i k l o =
      ⊎_elim
      (λ (d : ltb i p.free.0 ≡ true).
      ⊎_elim
      (λ (b : Y.is_header (at H i) ≡ true).
      rw (d, b) (mark-outside n (mark H p i) (i + size Y H i) k (omega arith) o
      ∙ get_or-set_other H (mark_at p i) k _ 0 (mark-there i k l (ltb-true i p.free.0 d) o)))
      (λ (b : Y.is_header (at H i) ≡ false). rw (d, b))
      (by_test (Y.is_header (at H i))))
      (λ (d : ltb i p.free.0 ≡ false). rw d)
      (by_test (ltb i p.free.0))

  -- ---- two heaps with the same used words
  size_agree : (H' H : List ℕ) (i : ℕ) → at H' i ≡ at H i → size Y H' i ≡ size Y H i
  size_agree H' H i e = ap (λ (w : ℕ). Y.count_of w + 1) e

  module _ (H' H : List ℕ) (agree : Agree H' H) where
    pub tiles_agree : is_tiled_from Y H p.free.0 p.first.0 ≡ true
        → (is_tiled_from Y H' p.free.0 p.first.0 ≡ true)
        × (headers_from Y H' p.free.0 (used_words p) p.first.0 ≡ headers_from Y H p.free.0 (used_words p) p.first.0)
    tiles_agree t =
        tiles-same Y H H' p.free.0 (used_words p) p.first.0 t
        (λ j m.
        let w = headers_tile Y H p.free.0 (used_words p) p.first.0 j t m in
        let a = w.within in
        agree j w.from (omega arith))

    run_agree : length H' ≡ length H → (i n : ℕ) → p.first.0 ≤ i → i + n ≤ p.free.0 → run H' i n ≡ run H i n
    run_agree s i n l m =
        ext_get_or 0 (run H' i n) (run H i n)
        (rw (length-take n (drop i H'), length-drop i H', length-take n (drop i H), length-drop i H, s))
        (λ k b.
        let c : k < n = omega (arith, rw (length-take n (drop i H')) at b) in
        get_or-take n (drop i H') k 0 c ∙ get_or-drop i H' k 0 ∙ agree (i + k) (omega arith) (omega arith)
        ∙ sym (get_or-take n (drop i H) k 0 c ∙ get_or-drop i H k 0))

    pub fields_agree : length H' ≡ length H → (i : ℕ) → p.first.0 ≤ i → i + size Y H i ≤ p.free.0
        → field_words Y H' i ≡ field_words Y H i
    fields_agree s i l m =
        ap (λ (w : ℕ). run H' (i + 1) (Y.count_of w)) (agree i l (omega arith))
        ∙ run_agree s (i + 1) (field_count Y H i) (omega arith) (omega arith)

  module _ (apart : UsedApart) where
    pub set_agree : (H' H : List ℕ) (k w : ℕ) → HoldsMarks p k → Agree H' H → Agree (set H' k w) H
    set_agree H' H k w o g j a b =
        get_or-set_other H' k j w 0 (λ (e : j ≡ k). apart j a b (rw e o)) ∙ g j a b

    -- one more mark
    mark_agree : (H' H : List ℕ) (i : ℕ) → p.first.0 ≤ i → i < p.free.0 → Agree H' H → Agree (mark H' p i) H
    mark_agree H' H i l m g = set_agree H' H (mark_at p i) _ (inr (omega arith, omega arith)) g

    pub marks_agree : (n : ℕ) (H : List ℕ) (i : ℕ) → p.first.0 ≤ i → Agree (mark_headers Y n H p i).heap H
    marks_agree n H i l k a b = mark-outside n H i k l (apart k a b)

    -- marking stops at the free index exactly where objects tile the words
    pub mark-stop : (H : List ℕ) (n : ℕ) (H' : List ℕ) (i : ℕ) → p.first.0 ≤ i → Agree H' H
        → eqb (mark_headers Y n H' p i).stop p.free.0 ≡ tiles Y H p.free.0 n i
    unfolding tiles mark_headers
    mark-stop H zero H' i l g = refl
    mark-stop H (suc n) H' i l g =
        ⊎_elim
        (λ (d : ltb i p.free.0 ≡ true).
        let t : i < p.free.0 = ltb-true i p.free.0 d in
        let no : eqb i p.free.0 ≡ false = ne_eqb i p.free.0 (λ q. omega arith) in
        ⊎_elim
        (λ (b : Y.is_header (at H i) ≡ true).
        rw (size_agree H' H i (g i l t), g i l t, d, b, no)
        (mark-stop H n (mark H' p i) (i + size Y H i) (omega arith) (mark_agree H' H i l t g)))
        (λ (b : Y.is_header (at H i) ≡ false). rw (g i l t, d, b, no))
        (by_test (Y.is_header (at H i))))
        (λ (d : ltb i p.free.0 ≡ false).
        ap (λ (m : Marking). eqb m.stop p.free.0) (mark-ended Y p (suc n) H' i (ltb-false i p.free.0 d))
        ∙ sym (tiles-past Y H p.free.0 (suc n) i (ltb-false i p.free.0 d)))
        (by_test (ltb i p.free.0))

    -- and then the marks stand at the headers, besides those that stood before
    pub mark-marks : (H : List ℕ) (n : ℕ) (H' : List ℕ) (i x : ℕ) → p.first.0 ≤ i → Agree H' H
        → tiles Y H p.free.0 n i ≡ true → mark_at p p.free.0 < length H'
        → is_marked (marks_of (mark_headers Y n H' p i).heap p) x
        ≡ (mem x (headers_from Y H p.free.0 n i) || is_marked (marks_of H' p) x)
    unfolding headers_from mark_headers mem
    mark-marks H zero H' i x l g t w = refl
    mark-marks H (suc n) H' i x l g t w =
        ⊎_elim
        (λ (d : ltb i p.free.0 ≡ true).
        let m : i < p.free.0 = ltb-true i p.free.0 d in
        let s = tiles-step Y H p.free.0 n i t m in
        let hs = headers_from Y H p.free.0 n (i + size Y H i) in
        rw (size_agree H' H i (g i l m), g i l m, d, s.0)
        (mark-marks H n (mark H' p i) (i + size Y H i) x (omega arith) (mark_agree H' H i l m g) s.1
        (rw (length-set H' (mark_at p i) _) w)
        ∙ ap (λ (b : Bool). mem x hs || b) (mark-one H' p i x (omega arith))
        ∙ or_turned (mem x hs) (eqb x i) (is_marked (marks_of H' p) x)))
        (λ (d : ltb i p.free.0 ≡ false). rw d)
        (by_test (ltb i p.free.0))
