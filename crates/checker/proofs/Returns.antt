-- A law for each return of the functions that only call others, over what those answered.
use Prim.Native.Nat.{ℕ, ◌+◌, ◌-◌, ◌≤◌}
use native.Mathlib.Omega.{arith}
use mathlib.Core.Path.{◌≡◌, sym, ap, ◌∙◌, subst}
use mathlib.Core.Bool.{Bool, true, false, ◌&&◌}
use mathlib.Core.List.{List}
use lib.ListN.{length, take, length-drop}
use lib.Seq.{take-length}
use borrow.Author.Tests.{eq-eqb, ne_eqb}
use Rattle.model.specs.declared.Answer.TheVariants as Says
use Rattle.model.specs.declared.Record.{Record}
use Rattle.model.specs.declared.Refusal.TheVariants as Why
use Rattle.model.specs.Answers.{says, refuse, refused}
use Rattle.model.specs.Calls.{check}
use Rattle.model.specs.Headers.{Layout}
use Rattle.model.specs.Shape.{bad_shape}
use Rattle.model.specs.Soundness.{all, all_zero, sound}
use Rattle.model.specs.Values.{is_null}
use Rattle.model.specs.Words.{state_of, at, half_words}
use Rattle.runs.specs.Runs.{run}
use Rattle.checker_marks.specs.declared.Part.{Part}
use Rattle.checker_marks.specs.Marks.{marks_of, cleared_marks, Marking, marking, marked, is_value_by_marks, are_values_from}
use Rattle.checker.specs.ByMarks.{Halves, Markable, Judgeable, part_of, is_zero_around, all_are_values_by_marks, used_part_sound}
use Rattle.checker.proofs.SoundByMarks.{stop_is, judgeable, halves, markable, sound_dirty, sound_clean}
use Rattle.checker.proofs.SoundByMarks.{heap_restored}

-- ---- the words around the used part
module _ (H : List ℕ) (p : Part) (S : ℕ) where
  pub around_first : (at H 0 ≡ 0 → ⊥) → false ≡ is_zero_around H p S
  unfolding is_zero_around
  around_first n = rw (ne_eqb (at H 0) 0 n)

  around_idle : at H 0 ≡ 0 → (b : Bool) → b ≡ all is_null (run H p.marks.0 S)
      → is_zero_around H p S ≡ (b && all_zero H p.free.0 (p.first.0 + S))
  unfolding is_zero_around
  around_idle z b e = let s : p.marks.0 + S - p.marks.0 ≡ S = omega arith in rw (s, eq-eqb (at H 0) 0 z, e)

  -- n words from i on, those of the half of the marks, were tested, with the answer b, and m words from j on, the
  -- free index; that these lie in the heap settles for the prover which they are
  module _ (z : at H 0 ≡ 0) (i n : ℕ) (within : i + n ≤ length H) (b : Bool) (e : b ≡ all is_null (run H i n))
      (idle : i ≡ p.marks.0) (half : n ≡ S) where
    idle-is : b ≡ all is_null (run H p.marks.0 S)
    idle-is = e ∙ ap (λ (k : ℕ). all is_null (run H i k)) half ∙ ap (λ (k : ℕ). all is_null (run H k S)) idle

    pub around_dirty : b ≡ false → false ≡ is_zero_around H p S
    around_dirty d = sym (around_idle z false (sym d ∙ idle-is))

    pub around_rest : b ≡ true → (j m : ℕ) → j + m ≤ length H → (r : Bool) → r ≡ all is_null (run H j m)
        → j ≡ p.free.0 → m ≡ p.first.0 + S - p.free.0 → r ≡ is_zero_around H p S
    around_rest d j m behind r g free rest =
        g ∙ ap (λ (k : ℕ). all is_null (run H j k)) rest
        ∙ ap (λ (k : ℕ). all is_null (run H k (p.first.0 + S - p.free.0))) free
        ∙ sym (around_idle z true (sym d ∙ idle-is))

-- ---- all roots, then all fields

-- the words from the first mark's on, as they are lent
pub marks-lent : (H : List ℕ) (p : Part) → take (length H - p.marks.0) (marks_of H p) ≡ marks_of H p
marks-lent H p =
    ap (λ (n : ℕ). take n (marks_of H p)) (sym (length-drop p.marks.0 H)) ∙ take-length (marks_of H p)

module _ (Y : Layout) (H roots : List ℕ) (p : Part) where
  -- the roots were judged, with the verdict v
  module _ (v : Bool) (e : v ≡ all (is_value_by_marks Y (marks_of H p) p.free.0) roots) where
    pub values-bad : v ≡ false → false ≡ all_are_values_by_marks Y H roots p
    unfolding all_are_values_by_marks
    values-bad d = rw (← e, d)

    pub values_good : v ≡ true → (r : Bool) → r ≡ are_values_from Y (marks_of H p) p.free.0 H p.first.0
        → r ≡ all_are_values_by_marks Y H roots p
    unfolding all_are_values_by_marks
    values_good d r g = rw (← e, d) g

-- ---- what marking left
module _ (Y : Layout) (H : List ℕ) (p : Part) (H' : List ℕ) (stop : ℕ) (is : marking H' stop ≡ marked Y H p) where
  pub left-heap : H' ≡ (marked Y H p).heap
  left-heap = ap (λ (m : Marking). m.heap) is

  -- what was marked to the end can be judged
  pub marked-whole : Markable H p → stop ≡ p.free.0 → Judgeable Y H' p
  marked-whole can e =
      rw left-heap
      (judgeable Y H p can
      (sym (stop_is Y H p can) ∙ eq-eqb (marked Y H p).stop p.free.0 (sym (ap (λ (m : Marking). m.stop) is) ∙ e)))

  pub stopped-short : (roots : List ℕ) → (stop ≡ p.free.0 → ⊥) → false ≡ used_part_sound Y H roots p
  unfolding used_part_sound
  stopped-short roots n = rw (← is, ne_eqb stop p.free.0 n)

  pub stopped-free : (roots : List ℕ) → stop ≡ p.free.0 → (r : Bool) → r ≡ all_are_values_by_marks Y H' roots p
      → r ≡ used_part_sound Y H roots p
  unfolding used_part_sound
  stopped-free roots e r g = rw (← is, eq-eqb stop p.free.0 e) g

-- ---- a state, and the part that the code took of it
module _ (Y : Layout) (H roots : List ℕ) (q : Record) where
  pub unsound-shape : bad_shape (state_of H roots q) ≡ true → false ≡ sound Y (state_of H roots q)
  unfolding sound
  unsound-shape b = rw b

  module _ (fair : bad_shape (state_of H roots q) ≡ false) (p : Part) (is : p ≡ part_of (half_words H) q) where
    pub part-halves : Halves H p (half_words H)
    part-halves = subst (λ (p : Part). Halves H p (half_words H)) (sym is) (halves Y (state_of H roots q) fair)

    pub unsound_around : false ≡ is_zero_around H p (half_words H) → false ≡ sound Y (state_of H roots q)
    unsound_around d =
        sym (sound_dirty Y (state_of H roots q) fair (sym (d ∙ ap (λ (p : Part). is_zero_around H p (half_words H)) is)))

    -- nothing stands around it
    module _ (d : true ≡ is_zero_around H p (half_words H)) where
      clean : is_zero_around H (part_of (half_words H) q) (half_words H) ≡ true
      clean = sym (d ∙ ap (λ (p : Part). is_zero_around H p (half_words H)) is)

      pub part_markable : Markable H p
      part_markable = subst (λ (p : Part). Markable H p) (sym is) (markable Y (state_of H roots q) fair clean)

      pub sound-used : Y.ahead ≡ 0 → (r : Bool) (H' : List ℕ)
          → r ≡ used_part_sound Y H roots p → H' ≡ cleared_marks (marked Y H p).heap p
          → (r ≡ sound Y (state_of H roots q)) × (H' ≡ H)
      sound-used near r H' a b = (
        a ∙ ap (λ (p : Part). used_part_sound Y H roots p) is ∙ sym (sound_clean Y (state_of H roots q) fair clean near),
        b ∙ ap (λ (p : Part). cleared_marks (marked Y H p).heap p) is
            ∙ heap_restored Y (state_of H roots q) fair clean,
      )

  -- ---- the call check
  pub check-refused : bad_shape (state_of H roots q) ≡ true
      → refused Why.Shape (state_of H roots q) ≡ check Y (state_of H roots q)
  unfolding check refuse
  check-refused b = rw b

  module _ (fair : bad_shape (state_of H roots q) ≡ false) (H' : List ℕ) (same : H' ≡ H) where
    pub check_sound : true ≡ sound Y (state_of H roots q)
        → says Says.Sound (state_of H' roots q) ≡ check Y (state_of H roots q)
    unfolding check refuse
    check_sound e = rw (same, fair, ← e)

    pub check-unsound : false ≡ sound Y (state_of H roots q)
        → says Says.Unsound (state_of H' roots q) ≡ check Y (state_of H roots q)
    unfolding check refuse
    check-unsound e = rw (same, fair, ← e)
