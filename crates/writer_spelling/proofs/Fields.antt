-- A tuple from a lead and a field on: where a writer goes.
use Prim.Native.Nat.{ℕ, ◌+◌, ◌≤◌, ◌<◌}
use native.Mathlib.Omega.{arith}
use mathlib.Core.Path.{◌≡◌, sym, ap, ◌∙◌, subst}
use mathlib.Core.List.{List, [], ◌∷◌, map}
use lib.ListN.{length, get_or, set}
use Rattle.model.specs.Texts.{Piece, byte}
use Rattle.writer_measuring.specs.Forms.{fields_at}
use Rattle.writer_measuring.specs.Tuples.{no_fields, lead, closer_of, tuple_in}
use Rattle.writer_measuring.proofs.Fields.{field_pieces, rest_pieces, on_pieces, none_pieces, all_pieces, on_pieces_lem, end_pieces}
use Rattle.writer_spelling.specs.Going.{reached, goes, Arrives}
use Rattle.writer_spelling.proofs.Steps.{on_from, room_for, room_for_bytes, arrives_first, one-fits}
use Rattle.writer_spelling.proofs.Leads.{some-lead}

module _ (first last : ℕ) (H : List ℕ) (d i n : ℕ) (within : i + n < length H) where
  module _ (place : ℕ) (t : List ℕ) where
    pub none-goes : n ≡ 0 → goes (map byte no_fields) place t ≡ goes (tuple_in first last H d i n) place t
    none-goes z = ap (λ (ps : List Piece). goes ps place t) (none_pieces first last H d i n within z)

    pub none-room : n ≡ 0 → Arrives (goes (tuple_in first last H d i n) place t) → place + 2 ≤ length t
    none-room z a = room_for_bytes no_fields place t (omega arith) (subst Arrives (sym (none-goes z)) a)

    pub all-goes : (n ≡ 0 → ⊥)
        → goes (rest_pieces first last H d i n 0) place t ≡ goes (tuple_in first last H d i n) place t
    all-goes some = ap (λ (ps : List Piece). goes ps place t) (all_pieces first last H d i n within some)

  module _ (f place : ℕ) (t : List ℕ) (a : Arrives (goes (rest_pieces first last H d i n f) place t)) where
    module _ (more : f < n) where
      pub lead-room : place + length (lead n f) ≤ length t
      lead-room =
          room_for_bytes (lead n f) place t (some-lead n f)
          (arrives_first (map byte (lead n f)) (on_pieces first last H d i n within f) place t
          (subst (λ (ps : List Piece). Arrives (goes ps place t)) (sym (on_pieces_lem first last H d i n within f more)) a))

      module _ (from : ℕ) (u : List ℕ) (leads : reached from u ≡ goes (map byte (lead n f)) place t) where
        lead-goes : goes (on_pieces first last H d i n within f) from u ≡ goes (rest_pieces first last H d i n f) place t
        lead-goes = on_from (map byte (lead n f)) (on_pieces first last H d i n within f) from place t u leads
            ∙ ap (λ (ps : List Piece). goes ps place t) (on_pieces_lem first last H d i n within f more)

        pub field_arrives : Arrives (goes (field_pieces first last H d (get_or (fields_at H i n) f 0)) from u)
        field_arrives = arrives_first _ (rest_pieces first last H d i n (f + 1)) _ _ (subst Arrives (sym lead-goes) a)

        pub field-goes : (r : ℕ) (v : List ℕ) → reached r v ≡ goes (field_pieces first last H d (get_or (fields_at H i n) f 0)) from u
            → goes (rest_pieces first last H d i n (f + 1)) r v ≡ goes (rest_pieces first last H d i n f) place t
        field-goes r v g = on_from _ (rest_pieces first last H d i n (f + 1)) r _ _ v g ∙ lead-goes

    module _ (end : n ≤ f) where
      pub end-room : place < length t
      end-room = room_for (closer_of n) [] place t
          (subst (λ (ps : List Piece). Arrives (goes ps place t)) (sym (end_pieces first last H d i n within f end)) a)

      pub end_goes : (close : ℕ) → close ≡ closer_of n
          → reached (place + 1) (set t place close) ≡ goes (rest_pieces first last H d i n f) place t
      end_goes close e =
          one-fits place t close (omega (arith, end-room))
          ∙ (ap (λ (b : ℕ). goes (byte b ∷ []) place t) e
          ∙ ap (λ (ps : List Piece). goes ps place t) (end_pieces first last H d i n within f end))
