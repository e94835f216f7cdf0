-- A walk over the objects of a heap that judges their fields by the marks. For any layout.
use Rattle.std.specs.Prelude.{ℕ, ◌≤◌, ◌<◌, ◌≡◌, Bool, true, ◌&&◌, List, length}
use Rattle.model.specs.Headers.{Layout, tuple}
use Rattle.checker_fields.specs.declared.Objects.{Objects}
use Rattle.checker_marks.specs.Marks.{Ready, is_tiled_from, are_values_from, fields_are_values_by_marks}

-- M are the marks, e is the free index, H the heap
module _ (Y : Layout) (M : List ℕ) (e : ℕ) (H : List ℕ) where
  -- a walk can begin at i: objects tile the words from there to e, and the marks can be asked
  pub record Begun (i : ℕ) : Type 0 where
    pub tiled : is_tiled_from Y H e i ≡ true
    pub used : e ≤ length H
    pub ready : Ready M e

  -- a walk from i came to j with the verdict v: it can go on there, and all fields from i on are values exactly if v says so
  -- and all from j on are
  pub record Passed (i j : ℕ) (v : Bool) : Type 0 where
    pub further : i < j
    pub tiled : is_tiled_from Y H e j ≡ true
    pub judged : (v && are_values_from Y M e H j) ≡ are_values_from Y M e H i

-- ---- of the objects of a tuple heap that has its marks

-- a walk can begin at i, since their type says the rest
abbrev pub AreTiled : Objects → ℕ → Type 0
AreTiled o i = is_tiled_from tuple o.words.now o.marks.free i ≡ true

abbrev pub Passes : Objects → ℕ → ℕ → Bool → Type 0
Passes o = Passed tuple o.marks.bits.now o.marks.free o.words.now

abbrev pub fields_are_values : Objects → ℕ → Bool
fields_are_values o = fields_are_values_by_marks tuple o.marks.bits.now o.marks.free o.words.now

abbrev pub are_values : Objects → ℕ → Bool
are_values o = are_values_from tuple o.marks.bits.now o.marks.free o.words.now
