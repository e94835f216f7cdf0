-- A number by its digits, taken from the left.
use Prim.Native.Nat.{ℕ, zero, suc, ◌+◌, ◌-◌, ◌*◌, ◌/◌, ◌%◌, ◌≤◌, ◌<◌}
use native.Mathlib.Omega.{arith}
use mathlib.Core.Path.{◌≡◌, refl, ap, ◌∙◌}
use mathlib.Core.Logic.{⊎_elim}
use mathlib.Core.Bool.{true, false}
use mathlib.Core.List.{List, [], ◌∷◌, ◌++◌}
use lib.ListN.{length, get_or, drop}
use borrow.Author.Tests.{lt-ltb, le-ltb, le-leb, leb-true}
use Rattle.model.specs.Texts.{digit, digits, digits_to}
use Rattle.model.specs.Reading.{is_digit}
use Rattle.theory.proofs.Tests.{decide, never, and_both, both_and}
use Rattle.reader_placing.specs.Numerals.{DigitsAt, DigitsRead}
use Rattle.reader_placing.proofs.Bytes.{first_of_lem}

abbrev pub AllDigits : List ℕ → Type 0
AllDigits [] = Unit {0}
AllDigits (b ∷ bs) = (is_digit b ≡ true) × AllDigits bs

all_snoc : (bs : List ℕ) (b : ℕ) → AllDigits bs → is_digit b ≡ true → AllDigits (bs ++ (b ∷ []))
all_snoc [] b h e = (e, tt)
all_snoc (a ∷ bs) b h e = (h.0, all_snoc bs b h.1 e)

-- the number n with more digits behind it
unfoldable pub onto : ℕ → List ℕ → ℕ
onto n [] = n
onto n (b ∷ bs) = onto (10 * n + (b - 48)) bs

onto_snoc : (n : ℕ) (bs : List ℕ) (b : ℕ) → onto n (bs ++ (b ∷ [])) ≡ 10 * onto n bs + (b - 48)
unfolding onto
onto_snoc n [] b = refl
onto_snoc n (a ∷ bs) b = onto_snoc (10 * n + (a - 48)) bs b

pub onto_most : (n : ℕ) (bs : List ℕ) → n ≤ onto n bs
unfolding onto
onto_most n [] = omega arith
onto_most n (b ∷ bs) = omega (arith, onto_most (10 * n + (b - 48)) bs)

is_digit_lem : (n : ℕ) → n < 10 → is_digit (digit n) ≡ true
is_digit_lem n h = both_and _ _ (le-leb 48 (48 + n) (omega arith)) (lt-ltb (48 + n) 58 (omega arith))

pub digits_onto : (k n : ℕ) → onto 0 (digits_to k n) ≡ n
unfolding onto digits_to
digits_onto zero n = omega arith
digits_onto (suc k) n =
    ⊎_elim
    (λ (h : n < 10). simp (lt-ltb n 10 h) (omega arith))
    (λ (h : 10 ≤ n). simp (le-ltb n 10 h) (onto_snoc 0 (digits_to k (n / 10)) (digit (n % 10)) ∙ omega (arith, digits_onto k (n / 10))))
    (decide n 10)

pub digits-all : (k n : ℕ) → n ≤ k → AllDigits (digits_to k n)
unfolding digits_to
digits-all zero n l = (is_digit_lem n (omega arith), tt)
digits-all (suc k) n l =
    ⊎_elim
    (λ (h : n < 10). simp (lt-ltb n 10 h) (is_digit_lem n h, tt))
    (λ (h : 10 ≤ n). simp (le-ltb n 10 h) (all_snoc (digits_to k (n / 10)) (digit (n % 10)) (digits-all k (n / 10) (omega arith)) (is_digit_lem (n % 10) (omega arith))))
    (decide n 10)

-- ---- while they are read

-- so many are left at a place, where the byte stands that is looked at next
pub record Left (T : List ℕ) (at n number place b : ℕ) : Type 0 where
  pub left : List ℕ
  pub mark : ℕ
  pub rest : List ℕ
  pub spelt : drop place T ≡ left ++ (mark ∷ rest)
  pub all : AllDigits left
  pub ends : is_digit mark ≡ false
  pub here : b ≡ get_or T place 0
  pub total : onto number left ≡ n
  pub behind : place + length left ≡ at + length (digits n)
  pub small : n ≤ 1_073_741_824

module _ (T : List ℕ) (at n : ℕ) where
  pub begins : DigitsAt T at n → Left T at n 0 at (get_or T at 0)
  begins d = record {
    left = digits n;
    mark = d.part.mark;
    rest = d.part.rest;
    spelt = d.part.spelt;
    all = digits-all n n (omega arith);
    ends = d.part.ends;
    here = refl;
    total = digits_onto n n;
    behind = refl;
    small = d.small;
  }

  pub inside_by : (place : ℕ) (left : List ℕ) (mark : ℕ) (rest : List ℕ) → drop place T ≡ left ++ (mark ∷ rest) → place < length T
  inside_by place [] mark rest e = (first_of_lem T place mark rest e).inside
  inside_by place (d ∷ ds) mark rest e = (first_of_lem T place d (ds ++ (mark ∷ rest)) e).inside

  module _ (number place b : ℕ) where
    pub inside : Left T at n number place b → place < length T
    inside r = inside_by place r.left r.mark r.rest r.spelt

    pub record Turn : Type 0 where
      pub more : 48 ≤ b
      pub fits : 10 * number + (b - 48) ≤ n
      pub again : Left T at n (10 * number + (b - 48)) (place + 1) (get_or T (place + 1) 0)

    turn_by : (left : List ℕ) (mark : ℕ) (rest : List ℕ) → drop place T ≡ left ++ (mark ∷ rest) → AllDigits left → is_digit mark ≡ false
        → b ≡ get_or T place 0 → onto number left ≡ n → place + length left ≡ at + length (digits n) → n ≤ 1_073_741_824
        → is_digit b ≡ true → Turn
    unfolding onto
    turn_by [] mark rest e a m h o l s t =
        never t (ap is_digit (h ∙ (first_of_lem T place mark rest e).is) ∙ m)
    turn_by (d ∷ ds) mark rest e a m h o l s t =
        let f = first_of_lem T place d (ds ++ (mark ∷ rest)) e in
        let g : b ≡ d = h ∙ f.is in
        let o' : onto (10 * number + (b - 48)) ds ≡ n = ap (λ (x : ℕ). onto (10 * number + (x - 48)) ds) g ∙ o in
        record {
          more = leb-true 48 b (and_both _ _ t).0;
          fits = omega (arith, onto_most (10 * number + (b - 48)) ds);
          again = record {
            left = ds;
            mark = mark;
            rest = rest;
            spelt = f.rest;
            all = a.1;
            ends = m;
            here = refl;
            total = o';
            behind = omega arith;
            small = s;
          };
        }

    pub turn : Left T at n number place b → is_digit b ≡ true → Turn
    turn r t =
        turn_by r.left r.mark r.rest r.spelt r.all r.ends r.here r.total r.behind r.small t

    stop_by : (left : List ℕ) (mark : ℕ) (rest : List ℕ) → drop place T ≡ left ++ (mark ∷ rest) → AllDigits left
        → b ≡ get_or T place 0 → onto number left ≡ n → place + length left ≡ at + length (digits n)
        → is_digit b ≡ false → DigitsRead at n number place
    unfolding onto
    stop_by [] mark rest e a h o l t = record { is = o; behind = omega arith }
    stop_by (d ∷ ds) mark rest e a h o l t =
        never (ap is_digit (h ∙ (first_of_lem T place d (ds ++ (mark ∷ rest)) e).is) ∙ a.0) t

    pub stop : Left T at n number place b → is_digit b ≡ false → DigitsRead at n number place
    stop r t = stop_by r.left r.mark r.rest r.spelt r.all r.here r.total r.behind t
