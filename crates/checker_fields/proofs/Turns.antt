-- How a walk that judges the fields of objects goes on: past one object, or past what another walk passed. For any
-- layout.
use Prim.Native.Nat.{ℕ, ◌+◌, ◌≤◌, ◌<◌}
use native.Mathlib.Omega.{arith}
use mathlib.Core.Path.{◌≡◌, refl, sym, ap, ◌∙◌}
use mathlib.Core.Logic.{◌⊎◌, ⊎_elim}
use mathlib.Core.Bool.{Bool, true, false, ◌&&◌, and_assoc, and-true}
use mathlib.Core.List.{List}
use lib.ListN.{length}
use Rattle.model.specs.Headers.{Layout, tuple}
use Rattle.model.specs.Objects.{is_traced, kind, field_count, size}
use Rattle.model.specs.Soundness.{all}
use Rattle.runs.specs.Runs.{run}
use Rattle.theory.proofs.Walks.{tiles_turn, headers_turn, tile_within, all-ended}
use Rattle.checker_marks.specs.Marks.{is_value_by_marks, fields_are_values_by_marks, is_tiled_from, are_values_from}
use Rattle.checker_fields.specs.declared.Objects.{Objects}
use Rattle.checker_marks.specs.Asked.{is_value}
use Rattle.checker_fields.specs.Walks.{Begun, Passed, AreTiled, Passes, fields_are_values}

-- the n words behind the header at i are those to judge: the fields of a traced object, and none of an untraced one
abbrev pub ToJudge : Layout → List ℕ → ℕ → ℕ → Type 0
ToJudge Y H i n =
    ((is_traced (kind Y H i) ≡ true) × (n ≡ field_count Y H i)) ⊎ ((is_traced (kind Y H i) ≡ false) × (n ≡ 0))

-- M are the marks, e is the free index, H the heap
module _ (Y : Layout) (M : List ℕ) (e : ℕ) (H : List ℕ) where
  -- ---- one object
  pub fields-judged : (i n : ℕ) → ToJudge Y H i n → (b : Bool) → b ≡ all (is_value_by_marks Y M e) (run H (i + 1) n)
      → b ≡ fields_are_values_by_marks Y M e H i
  unfolding fields_are_values_by_marks
  fields-judged i n t b is =
      ⊎_elim
      (λ (t : (is_traced (kind Y H i) ≡ true) × (n ≡ field_count Y H i)). rw t.0 (rw t.1 at is))
      (λ (t : (is_traced (kind Y H i) ≡ false) × (n ≡ 0)). rw t.0 (rw t.1 at is))
      t

  -- ---- a walk

  -- a walk from i is at j with the verdict v; it may have passed nothing yet
  pub record Walking (i j : ℕ) (v : Bool) : Type 0 where
    pub come : i ≤ j
    pub tiled : is_tiled_from Y H e j ≡ true
    pub judged : (v && are_values_from Y M e H j) ≡ are_values_from Y M e H i

  module _ (i : ℕ) (begun : Begun Y M e H i) where
    -- past one object, whose fields lie in the heap
    pub fields_within : i < e → (n : ℕ) → ToJudge Y H i n → i + 1 + n ≤ length H
    fields_within more n t =
        let within = tile_within Y H e i more begun.tiled in
        ⊎_elim (λ t. omega (arith, begun.used, t.1)) (λ t. omega (arith, begun.used, t.1)) t

    pub object-passed : i < e → (v : Bool) → v ≡ fields_are_values_by_marks Y M e H i → (j : ℕ) → j ≡ i + size Y H i
        → Passed Y M e H i j v
    object-passed more v is j there =
        rw there record {
          further = omega arith;
          tiled = tiles_turn Y H e i more begun.tiled;
          judged =
              ap (λ (b : Bool). b && are_values_from Y M e H (i + size Y H i)) is
              ∙ sym (ap (all (fields_are_values_by_marks Y M e H)) (headers_turn Y H e i more));
        }

    pub starts : Walking i i true
    starts = record { come = omega arith; tiled = begun.tiled; judged = refl }

  module _ (i j : ℕ) (v : Bool) (walk : Walking i j v) where
    pub goes_on : Begun Y M e H i → Begun Y M e H j
    goes_on begun = record { tiled = walk.tiled; used = begun.used; ready = begun.ready }

    pub joins : (k : ℕ) (w : Bool) → Passed Y M e H j k w → Walking i k (v && w)
    joins k w p = record {
      come = omega (arith, walk.come, p.further);
      tiled = p.tiled;
      judged = and_assoc v w (are_values_from Y M e H k) ∙ ap (λ (b : Bool). v && b) p.judged ∙ walk.judged;
    }

    pub passes_object : Begun Y M e H i → j < e → (w : Bool) → w ≡ fields_are_values_by_marks Y M e H j
        → (k : ℕ) → k ≡ j + size Y H j → Walking i k (v && w)
    passes_object begun more w is k there = joins k w (object-passed j (goes_on begun) more w is k there)

    -- once it has passed something
    pub passes : i < j → Passed Y M e H i j v
    passes l = record { further = l; tiled = walk.tiled; judged = walk.judged }

    pub ends : e ≤ j → v ≡ are_values_from Y M e H i
    ends l =
        let none = all-ended Y H e (fields_are_values_by_marks Y M e H) j l in
        sym (ap (λ (b : Bool). v && b) none ∙ and-true v) ∙ walk.judged

-- ---- of the objects of a tuple heap

abbrev pub Walks : Objects → ℕ → ℕ → Bool → Type 0
Walks o = Walking tuple o.marks.bits.now o.marks.free o.words.now

module _ (o : Objects) (i : ℕ) where
  pub begun : AreTiled o i → Begun tuple o.marks.bits.now o.marks.free o.words.now i
  begun tiled = record { tiled = tiled; used = o.used; ready = o.marks.ready }

  -- k words behind the header were judged, which are those to judge
  pub fields_at : (n k : ℕ) → ToJudge tuple o.words.now i n → k ≡ n
      → (b : Bool) → b ≡ all (is_value o.marks) (run o.words.now (i + 1) k) → b ≡ fields_are_values o i
  fields_at n k t e b is =
      fields-judged tuple o.marks.bits.now o.marks.free o.words.now i n t b
      (is ∙ ap (λ (m : ℕ). all (is_value o.marks) (run o.words.now (i + 1) m)) e)

  pub within_at : AreTiled o i → i < o.marks.free → (n : ℕ) → ToJudge tuple o.words.now i n → i + 1 + n ≤ length o.words.now
  within_at tiled more n t = fields_within tuple o.marks.bits.now o.marks.free o.words.now i (begun tiled) more n t

  pub passed_at : AreTiled o i → i < o.marks.free → (v : Bool) → v ≡ fields_are_values o i
      → (j : ℕ) → j ≡ i + size tuple o.words.now i → Passes o i j v
  passed_at tiled more v is j there =
      object-passed tuple o.marks.bits.now o.marks.free o.words.now i (begun tiled) more v is j there

  pub passes_at : (j : ℕ) (v : Bool) → Walks o i j v → AreTiled o i → j < o.marks.free
      → (w : Bool) → w ≡ fields_are_values o j → (k : ℕ) → k ≡ j + size tuple o.words.now j → Walks o i k (v && w)
  passes_at j v walk tiled more w is k there =
      passes_object tuple o.marks.bits.now o.marks.free o.words.now i j v walk (begun tiled) more w is k there
