-- A word's pieces, by what is tested of it.
use Prim.Native.Nat.{ℕ, zero, suc, ◌+◌, ◌-◌, ◌%◌, ◌<◌}
use native.Mathlib.Omega.{arith}
use native.Mathlib.Numerals.{sub-one}
use mathlib.Core.Path.{◌≡◌, refl, sym, ap, ◌∙◌}
use mathlib.Core.Bool.{Bool, true, false, ◌&&◌}
use mathlib.Core.List.{List, [], ◌∷◌, map}
use lib.Dec.{ltb, leb, eqb}
use lib.ListN.{length}
use borrow.Author.Tests.{ltb-true}
use Rattle.std.specs.Prelude.{Result, Ok, Err}
use Rattle.model.specs.declared.Refusal.{Refusal}
use Rattle.model.specs.declared.Refusal.TheVariants as Why
use Rattle.model.specs.Words.{at}
use Rattle.model.specs.Values.{is_odd, untag}
use Rattle.model.specs.Headers.{tuple}
use Rattle.model.specs.Objects.{index, field_count, is_traced}
use Rattle.model.specs.Texts.{Form, as_tuple, Piece, byte, fault, integer_text, tuple_pieces, value_pieces, enclosed}
use mathlib.Core.Logic.{⊎_elim}
use Rattle.theory.proofs.Tests.{by_test, and_both}
use Rattle.writer_measuring.specs.Forms.{named_in, why_unnamed, tuple_named, fields_at, form_in}
use Rattle.writer_measuring.specs.Measured.{measured, spent}
use Rattle.writer_measuring.specs.Tuples.{object_in}
use Rattle.writer_measuring.proofs.Rooms.{spent-bytes}

-- a tuple's pieces by the code's d - 1
pub tuple-more : (form : ℕ → Form ℕ) (d : ℕ) → (d ≡ 0 → ⊥) → (vs : List ℕ)
    → tuple_pieces form d vs ≡ enclosed byte (map (λ v. value_pieces form (d - 1) v) vs)
unfolding tuple_pieces
tuple-more form zero z vs = absurd (z refl)
tuple-more form (suc d) z vs = rw (sub-one (suc d))

pub tuple-deep : (form : ℕ → Form ℕ) (d : ℕ) → d ≡ 0 → (vs : List ℕ) → fault Why.Deep ∷ [] ≡ tuple_pieces form d vs
unfolding tuple_pieces
tuple-deep form d z vs = rw z

module _ (first last : ℕ) (H : List ℕ) (d w : ℕ) where
  abbrev pieces : List Piece
  pieces = value_pieces (form_in first last H) d w

  pub odd_pieces : is_odd w ≡ true → map byte (integer_text (untag w)) ≡ pieces
  unfolding form_in
  odd_pieces o = simp o

  pub odd-left : is_odd w ≡ true → (room count : ℕ) → count ≡ length (integer_text (untag w))
      → spent room count ≡ measured room pieces
  odd-left o room count e =
      ap (spent room) e ∙ (spent-bytes (integer_text (untag w)) room ∙ ap (measured room) (odd_pieces o))

  module _ (even : is_odd w ≡ false) where
    pub unnamed_pieces : named_in first last H w ≡ false → fault (why_unnamed w) ∷ [] ≡ pieces
    unfolding form_in
    unnamed_pieces n = simp (even, n)

    module _ (i : ℕ) (e : i ≡ index tuple w) (named : named_in first last H w ≡ true) where
      pub untraced_pieces : is_traced (tuple.kind_of (at H i)) ≡ false → fault Why.Value ∷ [] ≡ pieces
      unfolding form_in
      untraced_pieces u = let v = rw e at u in simp (even, named, v)

      module _ (traced : is_traced (tuple.kind_of (at H i)) ≡ true) where
        as_tuple_lem : form_in first last H w ≡ as_tuple (fields_at H i (field_count tuple H i))
        unfolding form_in
        as_tuple_lem = let v = rw e at traced in simp (even, named, v, e)

        pub nested_pieces : tuple_pieces (form_in first last H) d (fields_at H i (field_count tuple H i)) ≡ pieces
        nested_pieces = rw as_tuple_lem

        pub deep_pieces : d ≡ 0 → fault Why.Deep ∷ [] ≡ pieces
        unfolding tuple_pieces
        deep_pieces z = rw (as_tuple_lem, z)

        tuple_pieces_lem : (d ≡ 0 → ⊥) → object_in first last H (d - 1) i ≡ pieces
        tuple_pieces_lem z = rw as_tuple_lem (sym (tuple-more (form_in first last H) d z _))

-- the name by five tests, whatever each comes to, at the index as the code has it
pub named_tests : {b c u h l : Bool} (first last : ℕ) (H : List ℕ) (w i : ℕ) → i ≡ index tuple w → eqb (w % 4) 0 ≡ b
    → leb first i ≡ c → ltb i last ≡ u → tuple.is_header (at H i) ≡ h → ltb (field_count tuple H i) (last - i) ≡ l
    → (b && (c && u) && h && l) ≡ named_in first last H w
unfolding named_in
named_tests first last H w i e pb pc pu ph pl = simp (sym e, pb, pc, pu, ph, pl)

-- an object that is named ends before the free index
pub named_inside : (first last : ℕ) (H : List ℕ) (w i : ℕ) → i ≡ index tuple w → named_in first last H w ≡ true
    → i + field_count tuple H i < last
unfolding named_in
named_inside first last H w i e t =
    let j = index tuple w in
    let a = and_both (eqb (w % 4) 0 && (leb first j && ltb j last) && tuple.is_header (at H j)) _ t in
    let l = ltb-true (field_count tuple H j) (last - j) a.1 in
    let m : field_count tuple H j ≡ field_count tuple H i = ap (λ (k : ℕ). field_count tuple H k) (sym e) in
    omega arith

-- an even word names a tuple
pub record Told (first last : ℕ) (H : List ℕ) (w : ℕ) : Type 0 where
  pub named : named_in first last H w ≡ true
  pub traced : is_traced (tuple.kind_of (at H (index tuple w))) ≡ true

-- by where it stands, or by why the word names none
module _ (first last : ℕ) (H : List ℕ) (w : ℕ) where
  sorted : (P : Result ℕ Refusal → Type 0) → (Told first last H w → P (Ok (index tuple w)))
      → (named_in first last H w ≡ true → is_traced (tuple.kind_of (at H (index tuple w))) ≡ false → P (Err Why.Value))
      → (named_in first last H w ≡ false → P (Err (why_unnamed w))) → P (tuple_named first last H w)
  unfolding tuple_named
  sorted P t u m =
      ⊎_elim
      (λ (n : named_in first last H w ≡ true).
      ⊎_elim
      (λ (r : is_traced (tuple.kind_of (at H (index tuple w))) ≡ true). simp (n, r) (t (record { named = n; traced = r })))
      (λ (r : is_traced (tuple.kind_of (at H (index tuple w))) ≡ false). simp (n, r) (u n r))
      (by_test (is_traced (tuple.kind_of (at H (index tuple w))))))
      (λ (n : named_in first last H w ≡ false). simp n (m n))
      (by_test (named_in first last H w))

  pub tuple_found : (i : ℕ) → Ok i ≡ tuple_named first last H w → (i ≡ index tuple w) × Told first last H w
  tuple_found i e =
      sorted (λ (r : Result ℕ Refusal). Ok i ≡ r → (i ≡ index tuple w) × Told first last H w)
      (λ t f. (cc, t))
      (λ n r f. absurd (let z : ◌≡◌ {A = ℕ} 0 1 = cc in omega arith))
      (λ n f. absurd (let z : ◌≡◌ {A = ℕ} 0 1 = cc in omega arith))
      e

  pub tuple_refused : (k : Refusal) → Err k ≡ tuple_named first last H w → (d : ℕ) → is_odd w ≡ false
      → fault k ∷ [] ≡ value_pieces (form_in first last H) d w
  tuple_refused k e d even =
      sorted (λ (r : Result ℕ Refusal). Err k ≡ r → fault k ∷ [] ≡ value_pieces (form_in first last H) d w)
      (λ t f. absurd (let z : ◌≡◌ {A = ℕ} 0 1 = cc in omega arith))
      (λ n r f. let g : k ≡ Why.Value = cc in
      ap (λ (j : Refusal). fault j ∷ []) g ∙ untraced_pieces first last H d w even _ refl n r)
      (λ n f. let g : k ≡ why_unnamed w = cc in
      ap (λ (j : Refusal). fault j ∷ []) g ∙ unnamed_pieces first last H d w even n)
      e

-- what a tuple's word is written by
module _ (first last : ℕ) (H : List ℕ) (w i : ℕ) (e : i ≡ index tuple w) (told : Told first last H w) where
  pub told_inside : i + field_count tuple H i < last
  told_inside = named_inside first last H w i e told.named

  pub told_pieces : (d : ℕ) → is_odd w ≡ false → (d ≡ 0 → ⊥)
      → object_in first last H (d - 1) i ≡ value_pieces (form_in first last H) d w
  told_pieces d even levels =
      tuple_pieces_lem first last H d w even i e told.named
      (ap (λ (j : ℕ). is_traced (tuple.kind_of (at H j))) e ∙ told.traced)
      levels

  pub told_nested : (d : ℕ) → is_odd w ≡ false
      → tuple_pieces (form_in first last H) d (fields_at H i (field_count tuple H i)) ≡ value_pieces (form_in first last H) d w
  told_nested d even =
      nested_pieces first last H d w even i e told.named
      (ap (λ (j : ℕ). is_traced (tuple.kind_of (at H j))) e ∙ told.traced)
