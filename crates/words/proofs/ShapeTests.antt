-- SHAPE's tests of a length and of a free index, each by whether a number lies in a run.
use Rattle.std.proofs.Common.{◌≡◌, ℕ, suc, ◌+◌, ◌<◌, ◌≤◌, Bool, not, ◌&&◌, ◌||◌, ltb, leb, refl, ⊎_elim, arith, le-ltb, lt-ltb, le-leb}
use borrow.Author.Tests.{lt-leb}
use Rattle.theory.proofs.Tests.{decide}

-- a number lies outside a run where it is below the first or not below the end, each by whatever test says it
outside : (at first end : ℕ) {below beyond : Bool} → ltb at first ≡ below → leb end at ≡ beyond
    → not (leb first at && ltb at end) ≡ (below || beyond)
outside at first end p q =
    ⊎_elim
    (λ (k : at < first). rw (← p, lt-leb first at k, lt-ltb at first k))
    (λ (k : first ≤ at). rw (← p, ← q, le-leb first at k, le-ltb at first k) (ends at end))
    (decide at first)
  where
    ends : (at end : ℕ) → not (ltb at end) ≡ leb end at
    ends at end =
        ⊎_elim
        (λ (k : at < end). rw (lt-ltb at end k, lt-leb end at k))
        (λ (k : end ≤ at). rw (le-ltb at end k, le-leb end at k))
        (decide at end)

-- two tests of the same
pub same_test : (a b c d : ℕ) → (a ≤ b → c ≤ d) → (b < a → d < c) → leb a b ≡ leb c d
same_test a b c d f g =
    ⊎_elim
    (λ (k : b < a). rw (lt-leb a b k, lt-leb c d (g k)))
    (λ (k : a ≤ b). rw (le-leb a b k, le-leb c d (f k)))
    (decide b a)

-- a free index may be any of the half's words or the one past them, at the half's first word as the code has it
pub free_tests : (free start first S count : ℕ) → start ≡ first → count ≡ S + 1
    → not (leb start free && ltb free (start + count)) ≡ (ltb free first || ltb (first + S) free)
free_tests free start first S count e f =
    rw (e, f) (
    outside free first (first + (S + 1)) refl
    (same_test (first + (S + 1)) free (suc (first + S)) free (λ k. omega arith) (λ k. omega arith)))
