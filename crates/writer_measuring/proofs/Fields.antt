-- A tuple from a lead and a field on: its pieces, and what is left of so many bytes after it.
use Prim.Native.Nat.{ℕ, ◌+◌, ◌≤◌, ◌<◌}
use mathlib.Core.Path.{◌≡◌, ap, ◌∙◌}
use mathlib.Core.List.{List, [], ◌∷◌, ◌++◌, map}
use lib.ListN.{length, get_or, drop}
use Rattle.std.specs.Prelude.{Ok, Err}
use Rattle.model.specs.declared.Refusal.{Refusal}
use Rattle.model.specs.Texts.{Piece, byte, value_pieces}
use Rattle.writer_measuring.specs.Measured.{measured, spent}
use Rattle.writer_measuring.specs.Forms.{fields_at, form_in}
use Rattle.writer_measuring.specs.Tuples.{no_fields, lead, lead_bytes, closer_of, from_field, tuple_in}
use Rattle.writer_measuring.proofs.Rooms.{spent-bytes, measured_on, measured-stop}
use Rattle.writer_measuring.proofs.Leads.{length-lead, no_fields_lem, all-fields, next_field, last_field}

module _ (first last : ℕ) (H : List ℕ) (d : ℕ) where
  -- a field's pieces, and those from a lead and a field on
  abbrev pub field_pieces : ℕ → List Piece
  field_pieces x = value_pieces (form_in first last H) d x

  abbrev pub rest_pieces : ℕ → ℕ → ℕ → List Piece
  rest_pieces i n f = from_field n f (map field_pieces (drop f (fields_at H i n)))

module _ (first last : ℕ) (H : List ℕ) (d i n : ℕ) (within : i + n < length H) where
  abbrev pub on_pieces : ℕ → List Piece
  on_pieces f = field_pieces first last H d (get_or (fields_at H i n) f 0) ++ rest_pieces first last H d i n (f + 1)

  pub none_pieces : n ≡ 0 → map byte no_fields ≡ tuple_in first last H d i n
  none_pieces z = no_fields_lem (field_pieces first last H d) H i n within z

  pub all_pieces : (n ≡ 0 → ⊥) → rest_pieces first last H d i n 0 ≡ tuple_in first last H d i n
  all_pieces some = all-fields (field_pieces first last H d) H i n within some

  pub on_pieces_lem : (f : ℕ) → f < n → map byte (lead n f) ++ on_pieces f ≡ rest_pieces first last H d i n f
  on_pieces_lem f h = next_field (field_pieces first last H d) H i n within f h

  pub end_pieces : (f : ℕ) → n ≤ f → byte (closer_of n) ∷ [] ≡ rest_pieces first last H d i n f
  end_pieces f h = last_field (field_pieces first last H d) H i n within f h

  -- ---- measured

  pub none-measured : n ≡ 0 → (room : ℕ) → spent room 2 ≡ measured room (tuple_in first last H d i n)
  none-measured z room = spent-bytes no_fields room ∙ ap (measured room) (none_pieces z)

  pub all-measured : (n ≡ 0 → ⊥) → (room : ℕ)
      → measured room (rest_pieces first last H d i n 0) ≡ measured room (tuple_in first last H d i n)
  all-measured some room = ap (measured room) (all_pieces some)

  module _ (left f : ℕ) (more : f < n) (bytes : ℕ) (e : bytes ≡ lead_bytes n) where
    lead-left : spent left bytes ≡ measured left (map byte (lead n f))
    lead-left = ap (spent left) (e ∙ length-lead n f) ∙ spent-bytes (lead n f) left

    pub lead-stops : (k : Refusal) → Err k ≡ spent left bytes → Err k ≡ measured left (rest_pieces first last H d i n f)
    lead-stops k h =
        measured-stop (map byte (lead n f)) (on_pieces f) left k (h ∙ lead-left) ∙ ap (measured left) (on_pieces_lem f more)

    module _ (on : ℕ) (enough : Ok on ≡ spent left bytes) where
      lead_on : measured on (on_pieces f) ≡ measured left (rest_pieces first last H d i n f)
      lead_on =
          measured_on (map byte (lead n f)) (on_pieces f) left on (enough ∙ lead-left)
          ∙ ap (measured left) (on_pieces_lem f more)

      pub field-stops : (k : Refusal) → Err k ≡ measured on (field_pieces first last H d (get_or (fields_at H i n) f 0))
          → Err k ≡ measured left (rest_pieces first last H d i n f)
      field-stops k h = measured-stop _ (rest_pieces first last H d i n (f + 1)) on k h ∙ lead_on

      pub field_on : (next : ℕ) → Ok next ≡ measured on (field_pieces first last H d (get_or (fields_at H i n) f 0))
          → measured next (rest_pieces first last H d i n (f + 1)) ≡ measured left (rest_pieces first last H d i n f)
      field_on next h = measured_on _ (rest_pieces first last H d i n (f + 1)) on next h ∙ lead_on

  pub end-left : (left f : ℕ) → n ≤ f → spent left 1 ≡ measured left (rest_pieces first last H d i n f)
  end-left left f h = spent-bytes (closer_of n ∷ []) left ∙ ap (measured left) (end_pieces f h)
