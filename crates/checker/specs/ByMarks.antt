-- The soundness test as the code makes it, by marks in the idle half. `proofs/SoundByMarks` says that it is the definition of
-- soundness, for a layout whose addresses are those of headers.
use Rattle.std.specs.Prelude.{ℕ, ◌+◌, ◌≤◌, ◌<◌, ◌≡◌, Bool, ◌&&◌, List, eqb, length}
use Rattle.model.specs.declared.Record.{Record}
use Rattle.model.specs.Headers.{Layout}
use Rattle.model.specs.Soundness.{all, all_zero}
use Rattle.model.specs.Values.{is_null}
use Rattle.model.specs.Words.{at, other, first_of}
use Rattle.checker_marks.specs.declared.Part.{Part}
use Rattle.checker_marks.specs.Marks.{Fits, part, mark_at, marks_of, marked, is_value_by_marks, are_values_from}
use Rattle.checker_fields.specs.Walks.{Begun}

-- the used part of a record's half, and its marks in the other half
abbrev pub part_of : ℕ → Record → Part
part_of S q = part (first_of S q.half) q.free.0 (first_of S (other q.half))

-- both halves, of S words, lie in the heap behind word 0
pub record Halves (H : List ℕ) (p : Part) (S : ℕ) : Type 0 where
  pub some : 1 ≤ length H
  pub start : p.first.0 ≤ p.free.0
  pub end : p.free.0 ≤ p.first.0 + S
  pub current : p.first.0 + S ≤ length H
  pub idle : p.marks.0 + S ≤ length H

-- the part can be marked: it lies behind word 0, the words of the idle half up to that of the free index's mark are 0, and
-- none of them is used
pub record Markable (H : List ℕ) (p : Part) : Type 0 where
  pub behind : 1 ≤ p.first.0
  pub fits : Fits H p
  pub clear : (k : ℕ) → p.marks.0 ≤ k → k ≤ mark_at p p.free.0 → at H k ≡ 0
  pub apart : (k : ℕ) → p.first.0 ≤ k → k < p.free.0 → p.marks.0 ≤ k → k ≤ mark_at p p.free.0 → ⊥

-- word 0, the half of the marks and the words from the free index on
unfoldable pub is_zero_around : List ℕ → Part → ℕ → Bool
is_zero_around H p S =
    is_null (at H 0) && all_zero H p.marks.0 (p.marks.0 + S) && all_zero H p.free.0 (p.first.0 + S)

module _ (Y : Layout) where
  -- the part is marked and tiled, so that its fields can be judged
  pub record Judgeable (H : List ℕ) (p : Part) : Type 0 where
    pub fits : Fits H p
    pub begun : Begun Y (marks_of H p) p.free.0 H p.first.0

  -- each root and each field, once the headers are marked
  unfoldable pub all_are_values_by_marks : List ℕ → List ℕ → Part → Bool
  all_are_values_by_marks H roots p =
      let M = marks_of H p in
      all (is_value_by_marks Y M p.free.0) roots && are_values_from Y M p.free.0 H p.first.0

  -- the marking and the tests after it
  unfoldable pub used_part_sound : List ℕ → List ℕ → Part → Bool
  used_part_sound H roots p = eqb (marked Y H p).stop p.free.0 && all_are_values_by_marks (marked Y H p).heap roots p
