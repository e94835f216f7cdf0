-- Clearing the marks gives the heap back, for any layout; and the test by marks is the definition of soundness, for a layout
-- whose addresses are those of headers, since null has the mark of word 0.
use Prim.Native.Nat.{ℕ, ◌+◌, ◌/◌, ◌%◌, ◌≤◌, ◌<◌}
use native.Mathlib.Omega.{arith}
use mathlib.Core.Path.{◌≡◌, refl, sym, ap, ◌∙◌}
use mathlib.Core.Logic.{◌⊎◌, inl, inr, ⊎_elim}
use mathlib.Core.Bool.{Bool, true, false, not, ◌&&◌, ◌||◌, or-true, or-false}
use mathlib.Core.List.{List, [], ◌∷◌}
use lib.Dec.{eqb, ltb}
use lib.ListN.{length, length-set, length-drop}
use lib.Seq.{get_or-set_other, ext_get_or}
use borrow.Author.Tests.{ltb-true, ltb-false, eqb-true, ne_eqb}
use Rattle.model.specs.declared.Half.{Half}
use Rattle.model.specs.declared.Half.TheVariants.{A, B}
use Rattle.model.specs.Discovery.{mem}
use Rattle.model.specs.Headers.{Layout}
use Rattle.model.specs.Objects.{is_traced, index, kind, field_words}
use Rattle.model.specs.Shape.{bad_shape}
use Rattle.model.specs.Soundness.{all, all_zero, headers_from, is_tiled, headers, is_value, fields_are_values, sound}
use Rattle.model.specs.Values.{is_address, is_null}
use Rattle.model.specs.Words.{State, at, half_words, first_word, other_first, free}
use Rattle.theory.proofs.Members.{In, in_self, in_tail}
use Rattle.theory.proofs.Shape.{Shaped, shaped, first_in, other_in}
use Rattle.theory.proofs.Soundness.{zeros-at}
use Rattle.theory.proofs.Tests.{by_test, decide, same?, and_both}
use Rattle.theory.proofs.Tiling.{headers_tile}
use Rattle.theory.proofs.WordSorts.{address_parts}
use Rattle.runs.specs.Runs.{cleared}
use Rattle.runs.proofs.RunLaws.{Outside, cleared-length, cleared_inside, cleared-outside}
use Rattle.checker_marks.specs.declared.Part.{Part}
use Rattle.checker_marks.specs.Marks.{Ready, used_words, mark_at, HoldsMarks, mark_words, mark, is_marked, marks_of, cleared_marks}
use Rattle.checker_marks.specs.Marks.{marked, is_value_by_marks, fields_are_values_by_marks, is_tiled_from}
use Rattle.checker_marks.proofs.MarkBits.{unmarked_zero, mark-one}
use Rattle.checker.specs.ByMarks.{Halves, Markable, Judgeable, part_of, is_zero_around, all_are_values_by_marks, used_part_sound}
use Rattle.checker.proofs.MarkLaws.{Agree, UsedApart, mark-length, mark-outside, set_agree, marks_agree, mark-stop}
use Rattle.checker.proofs.MarkLaws.{mark-marks, tiles_agree, fields_agree}

-- two tests that are the same on a list's elements
all_same : (f g : ℕ → Bool) (xs : List ℕ) → ((i : ℕ) → In i xs → f i ≡ g i) → all f xs ≡ all g xs
all_same f g [] e = refl
all_same f g (x ∷ xs) e = rw (e x (in_self x xs), all_same f g xs (λ i m. e i (in_tail i x xs m)))

-- ---- a part that can be marked
module _ (Y : Layout) (H : List ℕ) (p : Part) (can : Markable H p) where
  -- the heap with null's mark, the marked heap, and the headers
  abbrev N : List ℕ
  N = mark H p 0

  abbrev M : List ℕ
  M = (marked Y H p).heap

  abbrev hs : List ℕ
  hs = headers_from Y H p.free.0 (used_words p) p.first.0

  -- where marks may stand is within the words that are 0
  holds-within : (k : ℕ) → HoldsMarks p k → (p.marks.0 ≤ k) × (k ≤ mark_at p p.free.0)
  holds-within k o =
      ⊎_elim
      (λ (e : k ≡ p.marks.0). (omega arith, omega arith))
      (λ (l : (mark_at p p.first.0 ≤ k) × (k ≤ mark_at p p.free.0)). (omega (arith, l.0), l.1))
      o

  apart : UsedApart Y p
  apart k a b o = let w = holds-within k o in can.apart k a b w.0 w.1

  null-held : HoldsMarks p (mark_at p 0)
  null-held = inl (omega arith)

  null_agree : Agree Y p N H
  null_agree = set_agree Y p apart H H (mark_at p 0) _ null-held (λ j a b. refl)

  null-length : length N ≡ length H
  null-length = length-set H (mark_at p 0) _

  lengths : length M ≡ length H
  lengths = mark-length Y p (used_words p) N p.first.0 ∙ null-length

  agree : Agree Y p M H
  agree j a b = marks_agree Y p apart (used_words p) N p.first.0 (omega arith) j a b ∙ null_agree j a b

  pub stop_is : eqb (marked Y H p).stop p.free.0 ≡ is_tiled_from Y H p.free.0 p.first.0
  stop_is = mark-stop Y p apart H (used_words p) N p.first.0 (omega arith) null_agree

  -- marking writes no word but those that hold marks
  pub marked-outside : (k : ℕ) → (HoldsMarks p k → ⊥) → at M k ≡ at H k
  marked-outside k o =
      mark-outside Y p (used_words p) N p.first.0 k (omega arith) o
      ∙ get_or-set_other H (mark_at p 0) k _ 0 (λ (e : k ≡ mark_at p 0). o (inl (omega arith)))

  -- ---- clearing gives the heap back
  untouched : (k : ℕ) → Outside (mark_at p p.first.0) (mark_words p) k → at (cleared_marks M p) k ≡ at H k
  untouched k o =
      cleared-outside (cleared M p.marks.0 1) (mark_at p p.first.0) (mark_words p) k o
      ∙ ⊎_elim
      (λ (e : k ≡ p.marks.0).
      rw e
      (cleared_inside M p.marks.0 1 p.marks.0 (omega (arith, can.fits.marks, lengths)) (omega arith) (omega arith)
      ∙ sym (can.clear p.marks.0 (omega arith) (omega arith))))
      (λ (e : k ≡ p.marks.0 → ⊥).
      cleared-outside M p.marks.0 1 k (⊎_elim inl (λ (a : p.marks.0 ≤ k). inr (omega arith)) (decide k p.marks.0))
      ∙ marked-outside k (⊎_elim e (behind o)))
      (same? k p.marks.0)
    where
      behind : Outside (mark_at p p.first.0) (mark_words p) k
          → (mark_at p p.first.0 ≤ k) × (k ≤ mark_at p p.free.0) → ⊥
      behind o l =
          ⊎_elim
          (λ (a : k < mark_at p p.first.0). omega (arith, l.0))
          (λ (a : mark_at p p.first.0 + mark_words p ≤ k). omega (arith, l.1, can.fits.start))
          o

  restored : cleared_marks M p ≡ H
  restored =
      ext_get_or 0 (cleared_marks M p) H
      (cleared-length (cleared M p.marks.0 1) (mark_at p p.first.0) (mark_words p)
      ∙ cleared-length M p.marks.0 1
      ∙ lengths)
      (λ k l. ⊎_elim
      (λ (a : k < mark_at p p.first.0). untouched k (inl a))
      (λ (a : mark_at p p.first.0 ≤ k). ⊎_elim
      (λ (b : k < mark_at p p.first.0 + mark_words p).
      cleared_inside (cleared M p.marks.0 1) (mark_at p p.first.0) (mark_words p) k
      (omega (arith, cleared-length M p.marks.0 1, lengths, can.fits.marks, can.fits.start)) a b
      ∙ sym (can.clear k (omega arith) (omega (arith, can.fits.start))))
      (λ (b : mark_at p p.first.0 + mark_words p ≤ k). untouched k (inr b))
      (decide k (mark_at p p.first.0 + mark_words p)))
      (decide k (mark_at p p.first.0)))

  -- ---- the marks of a part that is tiled
  module _ (tiled : is_tiled_from Y H p.free.0 p.first.0 ≡ true) where
    -- null's, and those of the headers
    mark-is : (i : ℕ) → i ≤ p.free.0 → is_marked (marks_of M p) i ≡ (mem i hs || eqb i 0)
    mark-is i l =
        mark-marks Y p apart H (used_words p) N p.first.0 i (omega arith) null_agree tiled
        (omega (arith, can.fits.marks, null-length))
        ∙ ap (λ (b : Bool). mem i hs || b)
        (mark-one H p 0 i (omega (arith, can.fits.marks))
        ∙ rw (unmarked_zero H p i (can.clear (mark_at p i) (omega arith) (omega arith))) (or-false (eqb i 0)))

    no_header : (i : ℕ) → (i < p.first.0) ⊎ (p.free.0 ≤ i) → mem i hs ≡ false
    no_header i o =
        ⊎_elim
        (λ (m : mem i hs ≡ true).
        let t = headers_tile Y H p.free.0 (used_words p) p.first.0 i tiled m in
        let from = t.from in
        let within = t.within in
        absurd (⊎_elim (λ (l : i < p.first.0). omega arith) (λ (l : p.free.0 ≤ i). omega arith) o))
        (λ (m : mem i hs ≡ false). m)
        (by_test (mem i hs))

    ready : Ready (marks_of M p) p.free.0
    ready = record {
      most = omega (arith, can.fits.used, can.fits.most);
      within = omega (arith, length-drop p.marks.0 M, lengths, can.fits.marks);
      null = mark-is 0 (omega arith) ∙ or-true (mem 0 hs);
      end =
          mark-is p.free.0 (omega arith)
          ∙ rw (
            no_header p.free.0 (inr (omega arith)),
            ne_eqb p.free.0 0 (λ z. omega (arith, can.behind, can.fits.start)),
          );
    }

    pub judgeable : Judgeable Y M p
    judgeable = record {
      fits = record {
        start = can.fits.start;
        used = omega (arith, lengths, can.fits.used);
        most = omega (arith, lengths, can.fits.most);
        marks = omega (arith, lengths, can.fits.marks);
      };
      begun = record {
        tiled = (tiles_agree Y p M H agree tiled).0;
        used = omega (arith, lengths, can.fits.used);
        ready = ready;
      };
    }

    -- an object's address is that of its header, so that none has null's mark
    module _ (near : Y.ahead ≡ 0) where
      value-is : (w : ℕ) → is_value_by_marks Y (marks_of M p) p.free.0 w ≡ is_value Y hs w
      unfolding is_value_by_marks is_value
      value-is w =
          ⊎_elim
          (λ (a : is_address w ≡ true). ⊎_elim
          (λ (f : eqb (w % 4) 0 ≡ true).
          let some = (address_parts w a).1 in
          let four = eqb-true (w % 4) 0 f in
          let later : index Y w ≡ 0 → ⊥ = λ z. some (omega (arith, near)) in
          rw (a, f)
          (⊎_elim
          (λ (b : ltb (index Y w) p.free.0 ≡ true).
          let l = ltb-true (index Y w) p.free.0 b in
          rw b (mark-is (index Y w) (omega arith) ∙ rw (ne_eqb (index Y w) 0 later) (or-false (mem (index Y w) hs))))
          (λ (b : ltb (index Y w) p.free.0 ≡ false).
          rw (b, no_header (index Y w) (inr (ltb-false (index Y w) p.free.0 b))))
          (by_test (ltb (index Y w) p.free.0))))
          (λ (f : eqb (w % 4) 0 ≡ false). rw (a, f))
          (by_test (eqb (w % 4) 0)))
          (λ (a : is_address w ≡ false). rw a)
          (by_test (is_address w))

      fields_are : (i : ℕ) → In i hs
          → fields_are_values_by_marks Y (marks_of M p) p.free.0 M i ≡ fields_are_values Y H hs i
      unfolding fields_are_values_by_marks fields_are_values
      fields_are i m =
          let q = is_value_by_marks Y (marks_of M p) p.free.0 in
          let t = headers_tile Y H p.free.0 (used_words p) p.first.0 i tiled m in
          let l : p.first.0 ≤ i = t.from in
          let w = t.within in
          ap (λ (w : ℕ). not (is_traced (Y.kind_of w)) || all q (field_words Y M i)) (agree i l (omega arith))
          ∙ ap (λ (ws : List ℕ). not (is_traced (kind Y H i)) || all q ws) (fields_agree Y p M H agree lengths i l w)
          ∙ ap (λ (b : Bool). not (is_traced (kind Y H i)) || b)
          (all_same q (is_value Y hs) (field_words Y H i) (λ x _. value-is x))

      all_are : (roots : List ℕ)
          → all_are_values_by_marks Y M roots p ≡ (all (is_value Y hs) roots && all (fields_are_values Y H hs) hs)
      unfolding all_are_values_by_marks
      all_are roots =
          rw (
            all_same (is_value_by_marks Y (marks_of M p) p.free.0) (is_value Y hs) roots (λ x _. value-is x),
            (tiles_agree Y p M H agree tiled).1,
            all_same (fields_are_values_by_marks Y (marks_of M p) p.free.0 M) (fields_are_values Y H hs) hs fields_are,
          )

  used-part-is : Y.ahead ≡ 0 → (roots : List ℕ) → used_part_sound Y H roots p
      ≡ (is_tiled_from Y H p.free.0 p.first.0 && (all (is_value Y hs) roots && all (fields_are_values Y H hs) hs))
  unfolding used_part_sound
  used-part-is near roots =
      ⊎_elim
      (λ (t : is_tiled_from Y H p.free.0 p.first.0 ≡ true). rw (stop_is, t, all_are t near roots))
      (λ (t : is_tiled_from Y H p.free.0 p.first.0 ≡ false). rw (stop_is, t))
      (by_test (is_tiled_from Y H p.free.0 p.first.0))

-- ---- the part of a state
and_six : (a b c d e f : Bool) → (a && b && c && d && e && f) ≡ ((a && b && c) && (d && (e && f)))
and_six true true true true e f = refl
and_six true true true false e f = refl
and_six true true false d e f = refl
and_six true false c d e f = refl
and_six false b c d e f = refl

module _ (Y : Layout) (s : State) (fair : bad_shape s ≡ false) where
  abbrev P : Part
  P = part_of (half_words s.heap) s.«record»

  abbrev zero_around : Bool
  zero_around = is_zero_around s.heap P (half_words s.heap)

  shape : Shaped s
  shape = shaped s fair

  pub halves : Halves s.heap P (half_words s.heap)
  halves = record {
    some = omega (arith, shape.odd);
    start = shape.low;
    end = shape.high;
    current = (first_in s shape).1;
    idle = (other_in s shape).1;
  }

  -- `sound`, in the order of the code's tests
  sound_parted : sound Y s
      ≡ (zero_around
      && (is_tiled Y s
      && (all (is_value Y (headers Y s)) s.roots && all (fields_are_values Y s.heap (headers Y s)) (headers Y s))))
  unfolding sound is_zero_around
  sound_parted =
      let H = s.heap in
      let hs = headers Y s in
      rw fair
      (and_six
      (is_null (at H 0))
      (all_zero H (other_first s) (other_first s + half_words H))
      (all_zero H (free s) (first_word s + half_words H))
      (is_tiled Y s)
      (all (is_value Y hs) s.roots)
      (all (fields_are_values Y H hs) hs))

  pub sound_dirty : zero_around ≡ false → sound Y s ≡ false
  sound_dirty d = sound_parted ∙ rw d

  module _ (clean : zero_around ≡ true) where
    idle : (k : ℕ) → P.marks.0 ≤ k → k < P.marks.0 + half_words s.heap → at s.heap k ≡ 0
    unfolding is_zero_around
    idle k l m =
        let H = s.heap in
        let a = and_both (is_null (at H 0) && all_zero H (other_first s) (other_first s + half_words H))
        (all_zero H (free s) (first_word s + half_words H)) clean in
        let b = and_both (is_null (at H 0)) (all_zero H (other_first s) (other_first s + half_words H)) a.0 in
        zeros-at H (other_first s) (other_first s + half_words H) k (other_in s shape).1 b.1 l m

    -- a half has room for the marks of all words of both, even one of a single word
    room : P.free.0 / 32 < half_words s.heap
    room = omega (arith, shape.odd, shape.pos, shape.high, (first_in s shape).1)

    pub markable : Markable s.heap P
    markable =
        let h = halves in
        let r = room in
        record {
          behind = (first_in s shape).0;
          fits = record {
            start = h.start;
            used = omega (arith, h.end, h.current);
            most = omega (arith, shape.odd, shape.small);
            marks = omega (arith, h.idle);
          };
          clear = λ k a b. idle k a (omega arith);
          apart = λ k a b c d. apart-halves s.«record».half refl k (omega (arith, shape.high)) a (omega arith) c;
        }
      where
        apart-halves : (f : Half) → s.«record».half ≡ f → (k : ℕ)
            → k < first_word s + half_words s.heap → first_word s ≤ k
            → k < other_first s + half_words s.heap → other_first s ≤ k → ⊥
        apart-halves A e k a b c d = omega (arith, rw e at a, rw e at d)
        apart-halves B e k a b c d = omega (arith, rw e at b, rw e at c)

    pub sound_clean : Y.ahead ≡ 0 → sound Y s ≡ used_part_sound Y s.heap s.roots P
    sound_clean near = sound_parted ∙ rw clean (sym (used-part-is Y s.heap P markable near s.roots))

    pub heap_restored : cleared_marks (marked Y s.heap P).heap P ≡ s.heap
    heap_restored = restored Y s.heap P markable
