-- How the walk that marks goes on from one turn to the next, and that no word behind a mark's is touched by it.
use Prim.Native.Nat.{ℕ, zero, suc, ◌+◌, ◌*◌, ◌-◌, ◌/◌, ◌%◌, ◌^◌, ◌≤◌, ◌<◌}
use native.Mathlib.Nat.{one-mul}
use native.Mathlib.Omega.{arith}
use mathlib.Core.Path.{◌≡◌, refl, sym, ap, ◌∙◌}
use mathlib.Core.Bool.{true, false}
use mathlib.Core.List.{List}
use lib.Bits.{bit_or}
use lib.ListN.{length, set}
use lib.Pow.{shl_exact}
use lib.Seq.{get_or-set_other}
use borrow.Author.Tests.{lt-ltb, le-ltb}
use Rattle.model.specs.Headers.{Layout}
use Rattle.model.specs.Objects.{size}
use Rattle.model.specs.Words.{at}
use Rattle.checker_marks.specs.declared.Part.{Part}
use Rattle.checker_marks.specs.Marks.{mark_at, Unmarked, mark, marking, mark_headers, marked_from}

-- ---- the walk that marks
module _ (Y : Layout) (p : Part) where
  pub mark-ended : (n : ℕ) (H : List ℕ) (i : ℕ) → p.free.0 ≤ i → mark_headers Y n H p i ≡ marking H i
  unfolding mark_headers
  mark-ended zero H i d = refl
  mark-ended (suc n) H i d = rw (le-ltb i p.free.0 d)

  pub mark-stopped : (n : ℕ) (H : List ℕ) (i : ℕ) → i < p.free.0 → Y.is_header (at H i) ≡ false
      → mark_headers Y n H p i ≡ marking H i
  unfolding mark_headers
  mark-stopped zero H i d b = refl
  mark-stopped (suc n) H i d b = rw (lt-ltb i p.free.0 d, b)

  mark-next : (n : ℕ) (H : List ℕ) (i : ℕ) → i < p.free.0 → Y.is_header (at H i) ≡ true
      → mark_headers Y (suc n) H p i ≡ mark_headers Y n (mark H p i) p (i + size Y H i)
  unfolding mark_headers
  mark-next n H i d b = rw (lt-ltb i p.free.0 d, b)

  -- as many turns as words are enough
  mark_enough : (n m : ℕ) (H : List ℕ) (i : ℕ) → p.free.0 - i ≤ n → p.free.0 - i ≤ m
      → mark_headers Y n H p i ≡ mark_headers Y m H p i
  unfolding mark_headers
  mark_enough zero m H i a b = sym (mark-ended m H i (omega arith))
  mark_enough (suc n) zero H i a b = mark-ended (suc n) H i (omega arith)
  mark_enough (suc n) (suc m) H i a b =
      rw (mark_enough n m (mark H p i) (i + size Y H i) (omega arith) (omega arith))

  pub mark_turn : (H : List ℕ) (i : ℕ) → i < p.free.0 → Y.is_header (at H i) ≡ true → (n : ℕ) → n ≡ size Y H i
      → marked_from Y (mark H p i) p (i + n) ≡ marked_from Y H p i
  mark_turn H i d b n c =
      let s : p.free.0 - i ≡ suc (p.free.0 - i - 1) = omega arith in
      rw c
      (mark_enough (p.free.0 - (i + size Y H i)) (p.free.0 - i - 1) (mark H p i) (i + size Y H i)
      (omega arith) (omega arith)
      ∙ sym (ap (λ (n : ℕ). mark_headers Y n H p i) s ∙ mark-next (p.free.0 - i - 1) H i d b))

-- ---- one mark

-- its bit fits a word
bit_exact : (i : ℕ) → 1 * 2 ^ (i % 32) % 4294967296 ≡ 2 ^ (i % 32)
bit_exact i = shl_exact 1 (i % 32) 32 (omega arith) (omega arith) ∙ one-mul (2 ^ (i % 32))

-- bit b set in the word k, which is w
pub marked_so : (H : List ℕ) (p : Part) (i k b w : ℕ) → k ≡ mark_at p i → b ≡ i % 32 → w ≡ at H k
    → set H k (bit_or w (1 * 2 ^ b % 4294967296)) ≡ mark H p i
marked_so H p i k b w place bit word = rw (word, place, bit, bit_exact i)

-- a turn, by what is stored
pub stored_turn : (Y : Layout) (p : Part) (H : List ℕ) (i n k b w : ℕ) → i < p.free.0 → Y.is_header (at H i) ≡ true
    → n ≡ size Y H i → k ≡ mark_at p i → b ≡ i % 32 → w ≡ at H k
    → marked_from Y (set H k (bit_or w (1 * 2 ^ b % 4294967296))) p (i + n) ≡ marked_from Y H p i
stored_turn Y p H i n k b w less head count place bit word =
    ap (λ (J : List ℕ). marked_from Y J p (i + n)) (marked_so H p i k b w place bit word) ∙ mark_turn Y p H i less head n count

-- ---- words behind a mark's

-- no word of marks behind the n-th has one: `Unmarked` of i is this of i / 32
abbrev pub UnmarkedBehind : List ℕ → Part → ℕ → Type 0
UnmarkedBehind H p n = (k : ℕ) → p.marks.0 + n < k → k ≤ mark_at p p.free.0 → at H k ≡ 0

module _ (H : List ℕ) (p : Part) (m n : ℕ) (d : m ≤ n) (u : UnmarkedBehind H p m) where
  pub unmarked_less : UnmarkedBehind H p n
  unmarked_less k a b = u k (omega arith) b

  pub unmarked_set : (w : ℕ) → UnmarkedBehind (set H (p.marks.0 + n) w) p n
  unmarked_set w k a b = get_or-set_other H (p.marks.0 + n) k w 0 (λ e. omega arith) ∙ unmarked_less k a b

pub unmarked_mark : (H : List ℕ) (p : Part) (i j : ℕ) → i ≤ j → Unmarked H p i → Unmarked (mark H p i) p j
unmarked_mark H p i j d u =
    unmarked_less (mark H p i) p (i / 32) (j / 32) (omega arith)
    (unmarked_set H p (i / 32) (i / 32) (omega arith) u (bit_or (at H (mark_at p i)) (2 ^ (i % 32))))

-- ---- a walk from i on in H that stands at j and has left J: what is left to mark leaves what all from i on leaves
pub record Walked (Y : Layout) (p : Part) (H : List ℕ) (i : ℕ) (J : List ℕ) (j : ℕ) : Type 0 where
  pub further : i ≤ j
  pub same : length J ≡ length H
  pub behind : Unmarked J p j
  pub left : marked_from Y J p j ≡ marked_from Y H p i

module _ (Y : Layout) (p : Part) (H : List ℕ) (i : ℕ) (J : List ℕ) (j : ℕ) (w : Walked Y p H i J j) where
  -- on to k, by a call that walks from j on or by one mark
  pub walked_on : (K : List ℕ) (k : ℕ) → length K ≡ length J
      → (j < k) × (Unmarked K p k × (marked_from Y K p k ≡ marked_from Y J p j)) → Walked Y p H i K k
  walked_on K k l e =
      record { further = omega (arith, w.further); same = l ∙ w.same; behind = e.1.0; left = e.1.1 ∙ w.left }
