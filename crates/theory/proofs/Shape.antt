-- SHAPE by its parts, and the halves of a heap that has its shape.
use Prim.Native.Nat.{ℕ, ◌+◌, ◌*◌, ◌%◌, ◌≤◌, ◌<◌}
use native.Mathlib.Omega.{arith}
use mathlib.Core.Path.{◌≡◌}
use mathlib.Core.Logic.{◌⊎◌, inl, inr, ⊎_elim}
use mathlib.Core.Bool.{false}
use lib.Dec.{ltb, eqb}
use lib.ListN.{length}
use borrow.Author.Tests.{ltb-false, eqb-false, ne_eqb, le-ltb}
use Rattle.model.specs.declared.Half.{Half}
use Rattle.model.specs.declared.Half.TheVariants.{A, B}
use Rattle.model.specs.Limits.{max_half, max_words, max_roots}
use Rattle.model.specs.Shape.{bad_length, bad_shape_of, bad_shape}
use Rattle.model.specs.Words.{State, half_words_of, half_words, other, first_of, first_word, other_first, free}
use Rattle.theory.proofs.Tests.{decide, or-none}

pub record Shaped (s : State) : Type 0 where
  pub odd : length s.heap ≡ 2 * half_words s.heap + 1
  pub pos : 1 ≤ half_words s.heap
  pub small : half_words s.heap ≤ max_half
  pub few : length s.roots ≤ max_roots
  pub low : first_word s ≤ free s
  pub high : free s ≤ first_word s + half_words s.heap

-- a length that is not refused: odd, and in its range
pub record GoodLength (n : ℕ) : Type 0 where
  pub odd : n ≡ 2 * half_words_of n + 1
  pub least : 1 ≤ half_words_of n
  pub most : half_words_of n ≤ max_half

pub good_length : (n : ℕ) → bad_length n ≡ false → GoodLength n
good_length n h =
    let d = or-none _ (ltb max_words n) h in
    let e = or-none (eqb (n % 2) 0) (ltb n 3) d.0 in
    let f : n % 2 ≡ 0 → ⊥ = eqb-false (n % 2) 0 e.0 in
    let g : 3 ≤ n = ltb-false n 3 e.1 in
    let i : n ≤ max_words = ltb-false max_words n d.1 in
    record { odd = omega arith; least = omega arith; most = omega arith }

pub shaped : (s : State) → bad_shape s ≡ false → Shaped s
unfolding bad_shape_of
shaped s h =
    let a = or-none _ (ltb (first_word s + half_words s.heap) (free s)) h in
    let b = or-none _ (ltb (free s) (first_word s)) a.0 in
    let c = or-none (bad_length (length s.heap)) (ltb max_roots (length s.roots)) b.0 in
    let g = good_length (length s.heap) c.0 in
    record {
      odd = g.odd;
      pos = g.least;
      small = g.most;
      few = ltb-false _ _ c.1;
      low = ltb-false _ _ b.1;
      high = ltb-false _ _ a.1;
    }

-- and back
pub unshaped : (s : State) → Shaped s → bad_shape s ≡ false
unfolding bad_shape_of
unshaped s h =
    let l = h.odd in
    rw (
      ne_eqb (length s.heap % 2) 0 (λ z. omega (arith, h.odd)),
      le-ltb (length s.heap) 3 (omega (arith, h.odd, h.pos)),
      le-ltb max_words (length s.heap) (omega (arith, h.odd, h.small)),
      le-ltb max_roots (length s.roots) h.few,
      le-ltb (free s) (first_word s) h.low,
      le-ltb (first_word s + half_words s.heap) (free s) h.high,
    )

pub first-most : (S : ℕ) (f : Half) → first_of S f ≤ S + 1
first-most S A = omega arith
first-most S B = omega arith

-- the first word of either half, and where it ends
pub half_in : (s : State) → Shaped s → (f : Half) → (1 ≤ first_of (half_words s.heap) f)
    × (first_of (half_words s.heap) f + half_words s.heap ≤ length s.heap)
half_in s h A = omega (arith, h.odd)
half_in s h B = omega (arith, h.odd)

pub first_in : (s : State) → Shaped s → (1 ≤ first_word s) × (first_word s + half_words s.heap ≤ length s.heap)
first_in s h = half_in s h s.«record».half

pub other_in : (s : State) → Shaped s → (1 ≤ other_first s) × (other_first s + half_words s.heap ≤ length s.heap)
other_in s h = half_in s h (other s.«record».half)

-- a word of the other half is none of the current one
pub halves-apart : (s : State) (i : ℕ) → other_first s ≤ i → i < other_first s + half_words s.heap
    → (i < first_word s) ⊎ (first_word s + half_words s.heap ≤ i)
halves-apart s = go s.«record».half (half_words s.heap)
  where
    go : (f : Half) (S i : ℕ) → first_of S (other f) ≤ i → i < first_of S (other f) + S
        → (i < first_of S f) ⊎ (first_of S f + S ≤ i)
    go A S i l k = inr (omega arith)
    go B S i l k = inl (omega arith)

-- and every word but the reserved one lies in one of them
pub halves_cover : (s : State) → Shaped s → (i : ℕ) → 1 ≤ i → i < length s.heap
    → ((first_word s ≤ i) × (i < first_word s + half_words s.heap)) ⊎ ((other_first s ≤ i) × (i < other_first s + half_words s.heap))
halves_cover s h i p l = go s.«record».half
  where
    go : (f : Half)
        → ((first_of (half_words s.heap) f ≤ i) × (i < first_of (half_words s.heap) f + half_words s.heap)) ⊎
        ((first_of (half_words s.heap) (other f) ≤ i) × (i < first_of (half_words s.heap) (other f) + half_words s.heap))
    go A =
        ⊎_elim (λ (k : i < half_words s.heap + 1). inl (omega arith))
        (λ (k : half_words s.heap + 1 ≤ i). inr (omega (arith, h.odd))) (decide i (half_words s.heap + 1))
    go B =
        ⊎_elim (λ (k : i < half_words s.heap + 1). inr (omega arith))
        (λ (k : half_words s.heap + 1 ≤ i). inl (omega (arith, h.odd))) (decide i (half_words s.heap + 1))
