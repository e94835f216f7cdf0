-- What marking a word does to the marks: it sets one bit and no other. And how many words the marks take.
use Prim.Native.Nat.{ℕ, suc, ◌+◌, ◌-◌, ◌/◌, ◌%◌, ◌^◌, ◌≤◌, ◌<◌}
use native.Mathlib.Nat.{div-eq_of_lt, zero-div, mul-mod_left, pow-suc}
use native.Mathlib.Omega.{arith}
use mathlib.Core.Path.{◌≡◌, ap, ◌∙◌}
use mathlib.Core.Logic.{⊎_elim}
use mathlib.Core.Bool.{Bool, false, ◌||◌, or_comm}
use mathlib.Core.List.{List}
use lib.Bits.{bit_or, or_shr}
use lib.Dec.{eqb}
use lib.ListN.{length}
use lib.Pow.{pow-add, pow-lt, shl-shr}
use lib.Seq.{get_or-set_same, get_or-set_other, get_or-drop}
use borrow.Author.Tests.{eq-eqb, ne_eqb}
use Rattle.model.specs.Values.{is_odd}
use Rattle.model.specs.Words.{at}
use Rattle.theory.proofs.Tests.{same?, decide}
use Rattle.checker_marks.specs.declared.Part.{Part}
use Rattle.checker_marks.specs.Marks.{used_words, mark_at, mark_words, mark, is_marked, marks_of}
use Rattle.checker_marks.proofs.Parity.{or-odd}

-- a power of two has one bit
power_bit : (i j : ℕ) → is_odd (2 ^ i / 2 ^ j) ≡ eqb j i
power_bit i j =
    ⊎_elim
    (λ (l : i < j). rw (div-eq_of_lt (pow-lt l), ne_eqb j i (λ e. omega arith)))
    (λ (l : j ≤ i).
    let sum : i ≡ i - j + j = omega arith in
    let high : 2 ^ i / 2 ^ j ≡ 2 ^ (i - j) =
    ap (λ (k : ℕ). 2 ^ k / 2 ^ j) sum ∙ ap (λ (n : ℕ). n / 2 ^ j) (pow-add 2 (i - j) j) ∙ shl-shr (2 ^ (i - j)) j in
    rw high
    (⊎_elim
    (λ (e : j ≡ i). let none : i - j ≡ 0 = omega arith in rw (none, eq-eqb j i e))
    (λ (e : j ≡ i → ⊥).
    let some : i - j ≡ suc (i - j - 1) = omega arith in
    let even : 2 ^ (i - j) % 2 ≡ 0 =
    ap (λ (k : ℕ). 2 ^ k % 2) some ∙ ap (λ (n : ℕ). n % 2) (pow-suc 2 (i - j - 1)) ∙ mul-mod_left (2 ^ (i - j - 1)) 2 in
    rw (even, ne_eqb j i e))
    (same? j i)))
    (decide i j)

-- and sets it in a word
set_bit : (w i j : ℕ) → is_odd (bit_or w (2 ^ i) / 2 ^ j) ≡ (eqb j i || is_odd (w / 2 ^ j))
set_bit w i j =
    ap is_odd (or_shr w (2 ^ i) j) ∙ or-odd (w / 2 ^ j) (2 ^ i / 2 ^ j)
    ∙ ap (λ (b : Bool). is_odd (w / 2 ^ j) || b) (power_bit i j)
    ∙ or_comm (is_odd (w / 2 ^ j)) (eqb j i)

-- the mark of a word of the heap, in the idle half
marked-at : (H : List ℕ) (p : Part) (x : ℕ) → is_marked (marks_of H p) x ≡ is_odd (at H (mark_at p x) / 2 ^ (x % 32))
unfolding is_marked
marked-at H p x = ap (λ (w : ℕ). is_odd (w / 2 ^ (x % 32))) (get_or-drop p.marks.0 H (x / 32) 0)

pub unmarked_zero : (H : List ℕ) (p : Part) (x : ℕ) → at H (mark_at p x) ≡ 0 → is_marked (marks_of H p) x ≡ false
unmarked_zero H p x z = marked-at H p x ∙ rw (z, zero-div (2 ^ (x % 32)))

-- marking i sets its mark and no other
pub mark-one : (H : List ℕ) (p : Part) (i x : ℕ) → mark_at p i < length H
    → is_marked (marks_of (mark H p i) p) x ≡ (eqb x i || is_marked (marks_of H p) x)
mark-one H p i x l =
    rw (marked-at (mark H p i) p x, marked-at H p x)
    (⊎_elim
    (λ (e : x / 32 ≡ i / 32).
    rw (e, get_or-set_same H (mark_at p i) (bit_or (at H (mark_at p i)) (2 ^ (i % 32))) 0 l)
    (set_bit (at H (mark_at p i)) (i % 32) (x % 32)
    ∙ ap (λ (b : Bool). b || is_odd (at H (mark_at p i) / 2 ^ (x % 32))) (bits-apart e)))
    (λ (e : x / 32 ≡ i / 32 → ⊥).
    rw (
      get_or-set_other H (mark_at p i) (mark_at p x) (bit_or (at H (mark_at p i)) (2 ^ (i % 32))) 0 (λ q. e (omega arith)),
      ne_eqb x i (λ q. e (ap (λ (n : ℕ). n / 32) q)),
    ))
    (same? (x / 32) (i / 32)))
  where
    bits-apart : x / 32 ≡ i / 32 → eqb (x % 32) (i % 32) ≡ eqb x i
    bits-apart e =
        ⊎_elim
        (λ (q : x ≡ i). rw (eq-eqb x i q, eq-eqb (x % 32) (i % 32) (ap (λ (n : ℕ). n % 32) q)))
        (λ (q : x ≡ i → ⊥). rw (ne_eqb x i q, ne_eqb (x % 32) (i % 32) (λ r. q (omega arith))))
        (same? x i)

-- a part has its marks in a 32nd of its words, or two more; null's word is not among these
pub mark-words-few : (p : Part) → mark_words p ≤ used_words p / 32 + 2
mark-words-few p = omega arith
