-- An object that a word names lies in the heap: what SHAPE and the test of the name say of its words.
use Prim.Native.Nat.{ℕ, suc, ◌+◌, ◌-◌, ◌≤◌, ◌<◌, ◌%◌}
use native.Mathlib.Omega.{arith}
use denote.Enum.Bare.{sameb}
use mathlib.Core.Path.{◌≡◌, refl, sym, ap, ◌∙◌}
use mathlib.Core.Logic.{⊎_elim}
use mathlib.Core.Bool.{Bool, true, false, not, cond, ◌&&◌, and-false, and_assoc}
use mathlib.Core.List.{List}
use lib.Dec.{ltb, leb, eqb}
use lib.ListN.{length}
use borrow.Author.Tests.{leb-true, ltb-true, eqb-true}
use Rattle.model.specs.contracts.Kind as Kinds
use Rattle.model.specs.declared.Kind.{Kind}
use Rattle.model.specs.declared.Kind.TheVariants.{Traced, Untraced}
use Rattle.model.specs.declared.Record.{Record}
use Rattle.model.specs.declared.Refusal.TheVariants as Why
use Rattle.model.specs.Words.{State, at, state_of, first_word, free}
use Rattle.model.specs.Values.{is_address}
use Rattle.model.specs.Limits.{max_words}
use Rattle.model.specs.Headers.{Layout, Adjacent}
use Rattle.model.specs.Objects.{index, size, kind, field_count, field_index, names}
use Rattle.model.specs.Shape.{bad_shape}
use Rattle.theory.proofs.Tests.{by_test, and_both}
use Rattle.theory.proofs.Shape.{shaped, first_in}
use Rattle.theory.proofs.WordSorts.{parts_address}
use Rattle.model.specs.Calls.{is_of_kind}
use Rattle.words.proofs.ShapeTests.{same_test}
use Rattle.std.specs.Prelude.{Ok, Err}
use Rattle.naming.specs.Named.{FreeInHeap, field_of}

-- the test of kinds, as the code makes it
same_kind : (k h : Kind) → is_of_kind k h ≡ sameb Kinds.the_type h k
same_kind Traced Traced = refl
same_kind Traced Untraced = refl
same_kind Untraced Traced = refl
same_kind Untraced Untraced = refl

pub other-kind : {b : Bool} (k : Kind) {h h' : Kind} → h' ≡ h → not (sameb Kinds.the_type h' k) ≡ b → not (is_of_kind k h) ≡ b
other-kind k {h} e f = ap not (same_kind k h) ∙ ap (λ (h : Kind). not (sameb Kinds.the_type h k)) (sym e) ∙ f

pub free_in_heap : (s : State) → bad_shape s ≡ false → FreeInHeap s.heap s.«record»
free_in_heap s h =
    let g = shaped s h in
    let f = first_in s g in
    record { least = f.0; begins = g.low; within = omega arith; most = omega arith }

module _ (Y : Layout) (near : Adjacent Y) where
  -- a multiple of 4 whose index is not below 1 is even and not 0, and one whose index is that of a heap word lies below the
  -- floor of code words
  needless : (w i first free : ℕ) → i ≡ index Y w → 1 ≤ first → free ≤ max_words
      → (is_address w && eqb (w % 4) 0 && leb first i && ltb i free) ≡ (eqb (w % 4) 0 && leb first i && ltb i free)
  needless w i first free e l m =
      ⊎_elim
      (λ (a : (eqb (w % 4) 0 && leb first i && ltb i free) ≡ true).
      let b = and_both (eqb (w % 4) 0 && leb first i) (ltb i free) a in
      let c = and_both (eqb (w % 4) 0) (leb first i) b.0 in
      let multiple : w % 4 ≡ 0 = eqb-true (w % 4) 0 c.0 in
      let above : first ≤ i = leb-true first i c.1 in
      let below : i < free = ltb-true i free b.1 in
      rw (parts_address w (omega arith) (λ z. omega arith) (omega arith)))
      (λ (a : (eqb (w % 4) 0 && leb first i && ltb i free) ≡ false).
      ap (λ (b : Bool). b && ltb i free) (and_assoc (is_address w) (eqb (w % 4) 0) (leb first i))
      ∙ and_assoc (is_address w) (eqb (w % 4) 0 && leb first i) (ltb i free)
      ∙ rw a (and-false (is_address w)))
      (by_test (eqb (w % 4) 0 && leb first i && ltb i free))

  -- the name by four tests, whatever each comes to, at the index and the half's first word as the code has them
  pub names_tests : {b c h l : Bool} (s : State) (w i first : ℕ) → FreeInHeap s.heap s.«record»
      → i ≡ index Y w → first ≡ first_word s → eqb (w % 4) 0 ≡ b → (leb first i && ltb i (first + (free s - first))) ≡ c
      → Y.is_header (at s.heap i) ≡ h → ltb (field_count Y s.heap i) (free s - i) ≡ l → (b && c && h && l) ≡ names Y s w
  unfolding names
  names_tests s w i first g e f pb pc ph pl =
      let n = field_count Y s.heap i in
      let end : first + (free s - first) ≡ free s = omega (arith, g, f) in
      simp (sym e, sym f) (
      rw (
        needless w i first (free s) e (omega (arith, g, f)) (omega (arith, g)),
        and_assoc (eqb (w % 4) 0) (leb first i) (ltb i (free s)),
        rw end at pc,
        pb,
        ph,
        same_test (i + (n + 1)) (free s) (suc n) (free s - i) (λ k. omega arith) (λ k. omega arith) ∙ pl,
      ))

module _ (Y : Layout) where
  pub named-ends : (s : State) (w : ℕ) → names Y s w ≡ true → index Y w + size Y s.heap (index Y w) ≤ free s
  unfolding names
  named-ends s w h =
      let i = index Y w in
      leb-true _ _
      (and_both (is_address w && eqb (w % 4) 0 && leb (first_word s) i && ltb i (free s) && Y.is_header (at s.heap i)) _ h).1

  pub header_in : (H R : List ℕ) (q : Record) (w : ℕ) → FreeInHeap H q → names Y (state_of H R q) w ≡ true
      → index Y w < length H
  header_in H R q w g h = omega (arith, named-ends (state_of H R q) w h)

  -- the same where SHAPE was tested, of the index as the code has it
  pub header-below : (s : State) (w i : ℕ) → i ≡ index Y w → bad_shape s ≡ false → names Y s w ≡ true → i < length s.heap
  header-below s w i e h n = let g = free_in_heap s h in rw e (omega (arith, named-ends s w n))

  -- the field by its three tests, whatever each comes to, at the header's index as the code has it
  pub field_tests : {a b c : Bool} (k : Kind) (w f i : ℕ) (s : State) → i ≡ index Y w
      → not (names Y s w) ≡ a → not (is_of_kind k (kind Y s.heap i)) ≡ b → leb (field_count Y s.heap i) f ≡ c
      → cond a (Err Why.Object) (cond b (Err Why.Kind) (cond c (Err Why.Field) (Ok (record { 0 = field_index i f }))))
      ≡ field_of Y k w f s
  unfolding field_of
  field_tests k w f i s e pa pb pc = simp (sym e, pa, pb, pc)
