-- A word held against the marks without a jump: turned right by two bits it is the index of a mark, or past all of them.
use Prim.Native.Nat.{ℕ, ◌+◌, ◌-◌, ◌*◌, ◌/◌, ◌%◌, ◌^◌, ◌≤◌, ◌<◌}
use native.Mathlib.Omega.{arith}
use mathlib.Core.Path.{◌≡◌, sym, ap, ◌∙◌}
use mathlib.Core.Logic.{◌⊎◌, ⊎_elim}
use mathlib.Core.Bool.{true, ◌||◌, or-true, or-false}
use mathlib.Core.List.{List}
use lib.Bits.{bit_or}
use borrow.Author.Tests.{lt-ltb, le-ltb, eq-eqb, ne_eqb}
use Rattle.theory.proofs.Tests.{same?}
use Rattle.theory.proofs.WordSorts.{parts_address, odd_no_address, parts_code, code_no_address}
use Rattle.model.specs.Headers.{Layout, tuple}
use Rattle.model.specs.Limits.{code_floor}
use Rattle.model.specs.Objects.{index}
use Rattle.model.specs.Values.{is_odd}
use Rattle.model.specs.Words.{at}
use Rattle.checker_marks.specs.Marks.{Ready, is_marked, is_value_by_marks}
use Rattle.checker_marks.proofs.Parity.{or-odd}

-- turned right by two bits
abbrev pub turned : ℕ → ℕ
turned w = w / 4 + w % 4 * 1_073_741_824

-- the lesser of a word turned and the free index
abbrev pub Looked : ℕ → ℕ → ℕ → Type 0
Looked e w i = ((turned w < e) × (i ≡ turned w)) ⊎ ((e ≤ turned w) × (i ≡ e))

-- the lesser of a word and the odd word before the floor
abbrev pub Capped : ℕ → ℕ → Type 0
Capped w v = ((w < code_floor - 1) × (v ≡ w)) ⊎ ((code_floor - 1 ≤ w) × (v ≡ code_floor - 1))

index_is : (w : ℕ) → index tuple w ≡ w / 4
unfolding tuple
index_is w = omega arith

module _ (Y : Layout) (M : List ℕ) (e w : ℕ) where
  pub value-odd : w % 2 ≡ 1 → is_value_by_marks Y M e w ≡ true
  unfolding is_value_by_marks
  value-odd o = rw (odd_no_address w o)

  value-code : w % 2 ≡ 0 → code_floor ≤ w → is_value_by_marks Y M e w ≡ true
  unfolding is_value_by_marks
  value-code o c = rw (code_no_address w (parts_code w o c))

module _ (M : List ℕ) (e : ℕ) (ready : Ready M e) (w i : ℕ) (l : Looked e w i) where
  -- what is even and below the floor is a value exactly where the mark looked up is set
  value-null : w ≡ 0 → is_marked M i ≡ is_value_by_marks tuple M e w
  unfolding is_value_by_marks
  value-null z =
      let first : i ≡ 0 = ⊎_elim (λ t. omega (arith, t.0, t.1)) (λ t. omega (arith, t.0, t.1)) l in
      rw (first, z) ready.null

  value_askew : w % 2 ≡ 0 → (w % 4 ≡ 0 → ⊥) → w < code_floor → is_marked M i ≡ is_value_by_marks tuple M e w
  unfolding is_value_by_marks
  value_askew o n c =
      let past : i ≡ e = ⊎_elim (λ t. absurd (omega (arith, t.0, ready.most))) (λ t. t.1) l in
      rw (past, parts_address w o (λ z. n (rw z)) c, ne_eqb (w % 4) 0 n) ready.end

  value_four : w % 4 ≡ 0 → (w ≡ 0 → ⊥) → w < code_floor → is_marked M i ≡ is_value_by_marks tuple M e w
  unfolding is_value_by_marks
  value_four o n c =
      rw (parts_address w (omega arith) n c, eq-eqb (w % 4) 0 o, index_is w)
      (⊎_elim
      (λ (t : (turned w < e) × (i ≡ turned w)).
      let there : i ≡ w / 4 = omega (arith, t.1) in
      rw (lt-ltb (w / 4) e (omega (arith, t.0)), there))
      (λ (t : (e ≤ turned w) × (i ≡ e)). rw (le-ltb (w / 4) e (omega (arith, t.0)), t.1) ready.end)
      l)

  -- a word before the floor, and any other
  below : w < code_floor → (is_marked M i || is_odd w) ≡ is_value_by_marks tuple M e w
  below c =
      ⊎_elim
      (λ (o : w % 2 ≡ 1). rw (eq-eqb (w % 2) 1 o) (or-true (is_marked M i) ∙ sym (value-odd tuple M e w o)))
      (λ (o : w % 2 ≡ 1 → ⊥).
      rw (ne_eqb (w % 2) 1 o)
      (or-false (is_marked M i)
      ∙ ⊎_elim
      (λ (z : w ≡ 0). value-null z)
      (λ (n : w ≡ 0 → ⊥).
      ⊎_elim
      (λ (f : w % 4 ≡ 0). value_four f n c)
      (λ (f : w % 4 ≡ 0 → ⊥). value_askew (omega arith) f c)
      (same? (w % 4) 0))
      (same? w 0)))
      (same? (w % 2) 1)

-- the verdict on a word: its mark is bit b of the word k
module _ (M : List ℕ) (e : ℕ) (ready : Ready M e) (w v i : ℕ) (cap : Capped w v) (l : Looked e v i)
    (k b : ℕ) (word : k ≡ i / 32) (bit : b ≡ i % 32) where
  pub judged : is_odd (bit_or (at M k / 2 ^ b) v) ≡ is_value_by_marks tuple M e w
  unfolding is_marked
  judged =
      rw (word, bit)
      (or-odd (at M (i / 32) / 2 ^ (i % 32)) v
      ∙ ⊎_elim
      (λ (t : (w < code_floor - 1) × (v ≡ w)).
      below M e ready v i l (omega (arith, t.0, t.1)) ∙ ap (is_value_by_marks tuple M e) t.1)
      (λ (t : (code_floor - 1 ≤ w) × (v ≡ code_floor - 1)).
      rw t.1 (or-true (is_marked M i) ∙ sym (above t.0)))
      cap)
    where
      above : code_floor - 1 ≤ w → is_value_by_marks tuple M e w ≡ true
      above c =
          ⊎_elim
          (λ (o : w % 2 ≡ 1). value-odd tuple M e w o)
          (λ (o : w % 2 ≡ 1 → ⊥). value-code tuple M e w (omega arith) (omega arith))
          (same? (w % 2) 1)
