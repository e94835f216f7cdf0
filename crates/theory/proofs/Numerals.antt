-- Decimal digits, one more at a time.
use Prim.Native.Nat.{ℕ, zero, suc, ◌+◌, ◌*◌, ◌/◌, ◌%◌, ◌≤◌, ◌<◌}
use native.Mathlib.Omega.{arith}
use mathlib.Core.Path.{◌≡◌, refl, ap, ◌∙◌}
use mathlib.Core.Logic.{⊎_elim}
use mathlib.Core.List.{List, [], ◌∷◌, ◌++◌}
use borrow.Author.Tests.{lt-ltb, le-ltb}
use Rattle.model.specs.Texts.{digit, digits_to, digits}
use Rattle.theory.proofs.Tests.{decide}

-- enough digits are enough
digits_enough : (j k n : ℕ) → n ≤ j → n ≤ k → digits_to j n ≡ digits_to k n
unfolding digits_to
digits_enough zero zero n a b = refl
digits_enough zero (suc k) n a b = rw (lt-ltb n 10 (omega arith))
digits_enough (suc j) zero n a b = rw (lt-ltb n 10 (omega arith))
digits_enough (suc j) (suc k) n a b =
    ⊎_elim
    (λ (l : n < 10). rw (lt-ltb n 10 l))
    (λ (l : 10 ≤ n).
    rw (le-ltb n 10 l)
    (ap (λ x. x ++ (digit (n % 10) ∷ [])) (digits_enough j k (n / 10) (omega arith) (omega arith))))
    (decide n 10)

pub digits-small : (n : ℕ) → n < 10 → digits n ≡ digit n ∷ []
unfolding digits_to
digits-small zero l = refl
digits-small (suc n) l = rw (lt-ltb (suc n) 10 l)

-- a digit behind a number that is not 0
pub digits_more : (n k : ℕ) → 1 ≤ n → k < 10 → digits (10 * n + k) ≡ digits n ++ (digit k ∷ [])
unfolding digits_to
digits_more n k l m = from (10 * n + k) refl
  where
    from : (j : ℕ) → j ≡ 10 * n + k → digits_to j j ≡ digits_to n n ++ (digit k ∷ [])
    from zero e = absurd (omega arith)
    from (suc j) e =
        let a : suc j / 10 ≡ n = omega arith in
        let b : suc j % 10 ≡ k = omega arith in
        rw (le-ltb (suc j) 10 (omega arith))
        (ap (λ x. digits_to j x ++ (digit (suc j % 10) ∷ [])) a ∙ ap (λ x. digits_to j n ++ (digit x ∷ [])) b
        ∙ ap (λ x. x ++ (digit k ∷ [])) (digits_enough j n n (omega arith) (omega arith)))

-- they begin with a digit
pub digits-first : (f n : ℕ) → (b : ℕ) × (bs : List ℕ) × (digits_to f n ≡ b ∷ bs) × (48 ≤ b)
unfolding digits_to
digits-first zero n = (digit n, [], refl, omega arith)
digits-first (suc f) n =
    ⊎_elim
    (λ (l : n < 10). (digit n, [], rw (lt-ltb n 10 l), omega arith))
    (λ (l : 10 ≤ n).
    let r = digits-first f (n / 10) in
    (r.0, r.1 ++ (digit (n % 10) ∷ []), rw (le-ltb n 10 l) (ap (λ x. x ++ (digit (n % 10) ∷ [])) r.2), r.3))
    (decide n 10)
