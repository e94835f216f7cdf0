-- The marks of the soundness test: one bit a word of the heap, 32 to a word, in the idle half. For any layout: functions on
-- lists of words.
use Rattle.std.specs.Prelude.{ℕ, zero, suc, ◌+◌, ◌-◌, ◌/◌, ◌%◌, ◌^◌, ◌≤◌, ◌<◌, ◌≡◌, ◌⊎◌, Bool, true, false, not, cond, ◌&&◌, ◌||◌, List, ltb, eqb, length, drop, set}
use Rattle.std.specs.Int.Bits.{bit_or}
use Rattle.model.specs.Headers.{Layout}
use Rattle.model.specs.Limits.{max_words}
use Rattle.model.specs.Objects.{is_traced, index, kind, size, field_words}
use Rattle.model.specs.Soundness.{all, tiles, headers_from}
use Rattle.model.specs.Values.{is_odd, is_address}
use Rattle.model.specs.Words.{at}
use Rattle.runs.specs.Runs.{cleared}
use Rattle.checker_marks.specs.declared.Part.{Part}

-- a part by its numbers: the first word, the free index, and the first word of the half of the marks
abbrev pub part : ℕ → ℕ → ℕ → Part
part i e m = record { first = record { 0 = i }; free = record { 0 = e }; marks = record { 0 = m } }

-- how many words the part has; no walk over its headers makes more turns
abbrev pub used_words : Part → ℕ
used_words p = p.free.0 - p.first.0

-- ---- where the marks stand

-- the mark of the word i of the heap is bit i % 32 of the word i / 32 of the idle half. Word 0's stands for null.
abbrev pub mark_at : Part → ℕ → ℕ
mark_at p i = p.marks.0 + i / 32

-- the words of the idle half that marks may touch: null's, and those from the first word's to the free index's, one for
-- each 32 words of the part or two more
abbrev pub HoldsMarks : Part → ℕ → Type 0
HoldsMarks p k = (k ≡ p.marks.0) ⊎ ((mark_at p p.first.0 ≤ k) × (k ≤ mark_at p p.free.0))

abbrev pub mark_words : Part → ℕ
mark_words p = p.free.0 / 32 - p.first.0 / 32 + 1

-- the part and its marks lie in the heap, which has no more words than a heap may
pub record Fits (H : List ℕ) (p : Part) : Type 0 where
  pub start : p.first.0 ≤ p.free.0
  pub used : p.free.0 ≤ length H
  pub most : length H ≤ max_words
  pub marks : mark_at p p.free.0 < length H

-- no word behind that of i's mark has one
abbrev pub Unmarked : List ℕ → Part → ℕ → Type 0
Unmarked H p i = (k : ℕ) → mark_at p i < k → k ≤ mark_at p p.free.0 → at H k ≡ 0

-- ---- marks made, asked for and cleared

abbrev pub mark : List ℕ → Part → ℕ → List ℕ
mark H p i = set H (mark_at p i) (bit_or (at H (mark_at p i)) (2 ^ (i % 32)))

-- of the words from the first mark's on
unfoldable pub is_marked : List ℕ → ℕ → Bool
is_marked M i = is_odd (at M (i / 32) / 2 ^ (i % 32))

abbrev pub marks_of : List ℕ → Part → List ℕ
marks_of H p = drop p.marks.0 H

abbrev pub cleared_marks : List ℕ → Part → List ℕ
cleared_marks H p = cleared (cleared H p.marks.0 1) (mark_at p p.first.0) (mark_words p)

-- words below e can be asked for: null has a mark and e has none
pub record Ready (M : List ℕ) (e : ℕ) : Type 0 where
  pub most : e ≤ max_words
  pub within : e / 32 < length M
  pub null : is_marked M 0 ≡ true
  pub end : is_marked M e ≡ false

-- ---- walks over headers

-- a stretch of n words from i on, or what there is of it before e
unfoldable pub stretch_end : ℕ → ℕ → ℕ → ℕ
stretch_end i e n = cond (ltb (e - i) n) e (i + n)

-- ---- all headers

-- what marking leaves: the heap, and the index at which it stopped
pub record Marking : Type 0 where
  pub heap : List ℕ
  pub stop : ℕ

abbrev pub marking : List ℕ → ℕ → Marking
marking H i = record { heap = H; stop = i }

module _ (Y : Layout) where
  -- each header from i on is marked, until a word is none or the free index is reached; n at most
  unfoldable pub mark_headers : ℕ → List ℕ → Part → ℕ → Marking
  mark_headers zero H p i = marking H i
  mark_headers (suc n) H p i =
      let rest = mark_headers n (mark H p i) p (i + size Y H i) in
      cond (ltb i p.free.0 && Y.is_header (at H i)) rest (marking H i)

  -- as many as the words from i to the free index are enough
  abbrev pub marked_from : List ℕ → Part → ℕ → Marking
  marked_from H p i = mark_headers (p.free.0 - i) H p i

  -- null, then each header
  abbrev pub marked : List ℕ → Part → Marking
  marked H p = marked_from (mark H p 0) p p.first.0

  -- odd, 0, a code word, or the address of a marked word below e
  unfoldable pub is_value_by_marks : List ℕ → ℕ → ℕ → Bool
  is_value_by_marks M e w = not (is_address w) || (eqb (w % 4) 0 && (ltb (index Y w) e && is_marked M (index Y w)))

  -- each field of the object at i, if it is traced
  unfoldable pub fields_are_values_by_marks : List ℕ → ℕ → List ℕ → ℕ → Bool
  fields_are_values_by_marks M e H i = not (is_traced (kind Y H i)) || all (is_value_by_marks M e) (field_words Y H i)

  -- the tiling from i on, and whether the fields of its objects are values
  abbrev pub is_tiled_from : List ℕ → ℕ → ℕ → Bool
  is_tiled_from H e i = tiles Y H e (e - i) i

  abbrev pub are_values_from : List ℕ → ℕ → List ℕ → ℕ → Bool
  are_values_from M e H i = all (fields_are_values_by_marks M e H) (headers_from Y H e (e - i) i)
