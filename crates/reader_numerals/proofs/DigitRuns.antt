-- Digits: what is read behind so many of them, and how large their number is.
use Prim.Native.Nat.{ℕ, zero, suc, ◌+◌, ◌-◌, ◌*◌, ◌≤◌, ◌<◌}
use native.Mathlib.Omega.{arith}
use mathlib.Core.Path.{◌≡◌, refl, sym, ap, ◌∙◌}
use mathlib.Core.Logic.{⊎_elim}
use mathlib.Core.Bool.{Bool, true, false, cond, ◌||◌}
use mathlib.Core.List.{List}
use lib.Dec.{ltb, eqb}
use lib.ListN.{length, get_or}
use borrow.Author.Tests.{ltb-true, lt-ltb, le-leb, le-ltb, ne_eqb}
use Rattle.model.specs.declared.Refusal.TheVariants as Why
use Rattle.model.specs.Texts.{max_depth}
use Rattle.model.specs.Trees.{leaf}
use Rattle.model.specs.Reading.{Open, digits, whole, Next, go, bad, is_digit, signed, most_digits, next, onward}
use Rattle.theory.proofs.Tests.{by_test, decide}
use Rattle.reader_numerals.specs.Numerals.{rest, of_digits}
use Rattle.reader_numerals.proofs.Steps.{step_to, at-end, digit_bounds, follow-digit}

-- 10 to the power k
unfoldable pub tens : ℕ → ℕ
tens zero = 1
tens (suc k) = 10 * tens k

tens_up : (k j : ℕ) → tens k ≤ tens (j + k)
unfolding tens
tens_up k zero = let e : 0 + k ≡ k = omega arith in omega (arith, ap tens e)
tens_up k (suc j) = let e : suc j + k ≡ suc (j + k) = omega arith in omega (arith, tens_up k j, ap tens e)

pub tens-most : (k n : ℕ) → k ≤ n → tens k ≤ tens n
tens-most k n h =
    let e : n - k + k ≡ n = omega arith in
    omega (arith, tens_up k (n - k), ap tens e)

-- the number of k digits with no leading zero
pub record Sized (k n : ℕ) : Type 0 where
  pub low : tens k ≤ 10 * n
  pub high : n < tens k

pub size-first : (k n : ℕ) → k ≡ 1 → 0 < n → n ≤ 9 → Sized k n
unfolding tens
size-first k n e z h = record { low = omega (arith, ap tens e); high = omega (arith, ap tens e) }

pub size-more : (k j n d : ℕ) → j ≡ suc k → d ≤ 9 → Sized k n → Sized j (10 * n + d)
unfolding tens
size-more k j n d e h s =
    record { low = omega (arith, ap tens e, s.low); high = omega (arith, ap tens e, s.high) }

pub size_fits : (k n : ℕ) → k ≤ 9 → Sized k n → n < 1_000_000_000
unfolding tens
size_fits k n h s = omega (arith, tens-most k 9 h, s.high)

pub size-some : (k n : ℕ) → Sized k n → 0 < n
unfolding tens
size-some zero n s = omega (arith, s.low)
size-some (suc k) n s = omega (arith, s.low, tens-most 0 k (omega arith))

pub size-full : (k n : ℕ) → k ≡ 10 → Sized k n → 1_000_000_000 ≤ n
unfolding tens
size-full k n e s = omega (arith, ap tens e, s.low)

-- ---- the range

pub most_low : (neg : Bool) → 1073741823 ≤ most_digits neg
most_low true = omega arith
most_low false = omega arith

pub most-high : (neg : Bool) → most_digits neg ≤ 1073741824
most-high true = omega arith
most-high false = omega arith

-- ---- what is read behind digits

or_right : (a : Bool) → (a || true) ≡ true
or_right true = refl
or_right false = refl

-- the digits of n so far, in range or not
abbrev pub so_far : Bool → ℕ → Open → Next
so_far neg n o = cond (ltb (most_digits neg) n) (bad Why.Value) (go (digits neg n o))

-- one digit more
pub one_more : (neg : Bool) (n : ℕ) (o : Open) (b : ℕ) → 0 < n → 48 ≤ b → b < 58
    → onward max_depth (so_far neg n o) b ≡ so_far neg (10 * n + (b - 48)) o
one_more neg n o b z l h =
    ⊎_elim
    (λ (e : ltb (most_digits neg) n ≡ true).
    let big : most_digits neg < 10 * n + (b - 48) = omega (arith, ltb-true (most_digits neg) n e) in
    simp (e, lt-ltb (most_digits neg) (10 * n + (b - 48)) big))
    (λ (e : ltb (most_digits neg) n ≡ false).
    simp (e, le-leb 48 b l, lt-ltb b 58 h, ne_eqb n 0 (λ q. omega arith)))
    (by_test (ltb (most_digits neg) n))

-- ten digits leave no room
pub full : (neg : Bool) (n k : ℕ) → 1_000_000_000 ≤ n → (eqb n 0 || ltb (most_digits neg) (10 * n + k)) ≡ true
full neg n k h =
    let big : most_digits neg < 10 * n + k = omega (arith, most-high neg) in
    simp (lt-ltb (most_digits neg) (10 * n + k) big) (or_right (eqb n 0))

-- no digit more: what follows is no digit, or one that the range has no room for
pub no_more : (neg : Bool) (n : ℕ) (o : Open) (t : List ℕ) (at : ℕ) → at ≤ length t
    → (at < length t → is_digit (get_or t at 0) ≡ true → (eqb n 0 || ltb (most_digits neg) (10 * n + (get_or t at 0 - 48))) ≡ true)
    → rest t (so_far neg n o) at ≡ rest t (of_digits neg n o) at
no_more neg n o t at within none =
    ⊎_elim
    (λ (e : ltb (most_digits neg) n ≡ true). simp e)
    (λ (e : ltb (most_digits neg) n ≡ false). simp e (
    ⊎_elim
    (λ (h : at < length t).
    ⊎_elim
    (λ (d : is_digit (get_or t at 0) ≡ true).
    let p = digit_bounds (get_or t at 0) d in
    step_to t (go (digits neg n o)) (bad Why.Value) at h (simp (d, none h d))
    ∙ sym (step_to t (go (whole (leaf (signed neg n)) o)) (bad Why.Value) at h (follow-digit _ o _ p.0 p.1)))
    (λ (d : is_digit (get_or t at 0) ≡ false).
    step_to t (go (digits neg n o)) (next max_depth (whole (leaf (signed neg n)) o) (get_or t at 0)) at h (simp d)
    ∙ sym (step_to t (go (whole (leaf (signed neg n)) o)) _ at h refl))
    (by_test (is_digit (get_or t at 0))))
    (λ (h : length t ≤ at).
    let q : at ≡ length t = omega arith in
    at-end t (go (digits neg n o)) at q ∙ sym (at-end t (go (whole (leaf (signed neg n)) o)) at q))
    (decide at (length t))))
    (by_test (ltb (most_digits neg) n))

-- the first
pub first_so_far : (neg : Bool) (n : ℕ) (o : Open) → n ≤ 9 → go (digits neg n o) ≡ so_far neg n o
first_so_far neg n o h = simp (le-ltb (most_digits neg) n (omega (arith, most_low neg)))
