-- Objects: their cells and fields, their kinds, and addresses to indexes and back.
use Prim.Native.Nat.{ℕ, suc, ◌+◌, ◌≤◌, ◌<◌}
use native.Mathlib.Omega.{arith}
use mathlib.Core.Path.{◌≡◌, refl, ap, ◌∙◌}
use mathlib.Core.Bool.{true, false}
use mathlib.Core.List.{List}
use lib.ListN.{length, get_or, drop, length-take, length-drop, length-map}
use lib.Seq.{get_or-take, get_or-drop}
use Rattle.model.specs.declared.Kind.{Kind}
use Rattle.model.specs.declared.Kind.TheVariants.{Traced, Untraced}
use borrow.Author.Tests.{not-true}
use Rattle.model.specs.Calls.{is_of_kind}
use Rattle.model.specs.Collection.{still, field_cell, cells}
use Rattle.model.specs.Headers.{Layout, Adjacent}
use Rattle.model.specs.Limits.{code_floor}
use Rattle.model.specs.Objects.{is_traced, address, index, kind, field_count, size, field_words}
use Rattle.model.specs.Words.{State, at}
use Rattle.theory.proofs.Lists.{get_d_map}
use Rattle.theory.proofs.Shape.{Shaped}
use Rattle.theory.proofs.Tests.{never}

pub kind-traced : (k : Kind) → is_traced k ≡ true → k ≡ Traced
kind-traced Traced h = refl
kind-traced Untraced h = never h refl

pub kind-untraced : (k : Kind) → is_traced k ≡ false → k ≡ Untraced
kind-untraced Traced h = never refl h
kind-untraced Untraced h = refl

pub kind-same : (k j : Kind) → is_of_kind k j ≡ true → j ≡ k
kind-same Traced j e = kind-traced j e
kind-same Untraced j e = kind-untraced j (not-true (is_traced j) e)

module _ (Y : Layout) where
  pub index-address : (i : ℕ) → index Y (address Y i) ≡ i
  index-address i = omega arith

  -- the largest address of any heap lies below the floor of code words
  pub address_below : Adjacent Y → (s : State) → Shaped s → (i : ℕ) → i < length s.heap → address Y i < code_floor
  address_below near s h i l = omega (arith, h.odd, h.small)

  -- the words of an object that lies within the heap
  pub cells-length : (H : List ℕ) (i : ℕ) → i + size Y H i ≤ length H → length (cells Y H i) ≡ size Y H i
  cells-length H i l =
      rw (length-map (field_words Y H i) (field_cell (kind Y H i)), length-take, length-drop) (omega arith)

  pub field_at : (H : List ℕ) (i f : ℕ) → f < field_count Y H i → get_or (field_words Y H i) f 0 ≡ at H (i + 1 + f)
  field_at H i f l = rw (get_or-take (field_count Y H i) (drop (i + 1) H) f 0 l, get_or-drop)

  pub fields-length : (H : List ℕ) (i : ℕ) → i + size Y H i ≤ length H → length (field_words Y H i) ≡ field_count Y H i
  fields-length H i l = rw (length-take, length-drop) (omega arith)

  -- the cell of a field
  pub field_cell_lem : (H : List ℕ) (i f : ℕ) → i + size Y H i ≤ length H → f < field_count Y H i
      → get_or (cells Y H i) (suc f) (still 0) ≡ field_cell (kind Y H i) (at H (i + 1 + f))
  field_cell_lem H i f l b =
      let n = fields-length H i l in
      get_d_map (field_cell (kind Y H i)) (field_words Y H i) f 0 (still 0) (omega arith)
      ∙ ap (field_cell (kind Y H i)) (field_at H i f b)
