-- Membership in a list of numbers by the test `mem`, lists with no number twice, and `all` over members.
use Prim.Native.Nat.{ℕ, zero, suc, ◌<◌}
use native.Mathlib.Omega.{arith}
use mathlib.Core.Path.{◌≡◌, refl, sym, ap}
use mathlib.Core.Logic.{◌⊎◌, inl, inr, ⊎_elim}
use mathlib.Core.Bool.{Bool, true, false, cond, ◌||◌, or_assoc}
use mathlib.Core.List.{List, [], ◌∷◌, ◌++◌, map, Memᴰ}
use lib.Dec.{eqb}
use lib.ListN.{length, get_or, take}
use borrow.Author.Tests.{eqb-true, eqb-false, eq-eqb, ne_eqb}
use Rattle.model.specs.Demand2 as D
use Rattle.model.specs.Discovery.{mem}
use Rattle.model.specs.Soundness.{all}
use Rattle.theory.proofs.Tests.{by_test, never, or_cases, or_left, or_right, or-none, and_both, both_and}

abbrev pub In : ℕ → List ℕ → Type 0
In i o = mem i o ≡ true

abbrev pub Out : ℕ → List ℕ → Type 0
Out i o = mem i o ≡ false

pub in-nil {ℓ} : {A : Type ℓ} (i : ℕ) → In i [] → A
unfolding mem
in-nil i h = never h refl

pub out_nil : (i : ℕ) → Out i []
unfolding mem
out_nil i = refl

pub in_head : (i j : ℕ) (o : List ℕ) → i ≡ j → In i (j ∷ o)
unfolding mem
in_head i j o e = or_left (eqb i j) (mem i o) (eq-eqb i j e)

pub in_tail : (i j : ℕ) (o : List ℕ) → In i o → In i (j ∷ o)
unfolding mem
in_tail i j o h = or_right (eqb i j) (mem i o) h

pub in_self : (i : ℕ) (o : List ℕ) → In i (i ∷ o)
in_self i o = in_head i i o refl

pub in_cons : (i j : ℕ) (o : List ℕ) → In i (j ∷ o) → (i ≡ j) ⊎ In i o
unfolding mem
in_cons i j o h = ⊎_elim (λ e. inl (eqb-true i j e)) inr (or_cases (eqb i j) (mem i o) h)

pub in_other : (i j : ℕ) (o : List ℕ) → In i (j ∷ o) → eqb i j ≡ false → In i o
in_other i j o h e = ⊎_elim (λ (q : i ≡ j). never (eq-eqb i j q) e) (λ m. m) (in_cons i j o h)

pub out_cons : (i j : ℕ) (o : List ℕ) → Out i (j ∷ o) → (i ≡ j → ⊥) × Out i o
unfolding mem
out_cons i j o h = let p = or-none (eqb i j) (mem i o) h in (eqb-false i j p.0, p.1)

pub in_out : (i j : ℕ) (o : List ℕ) → In i o → Out j o → i ≡ j → ⊥
in_out i j o h n e = never h (rw e n)

-- ---- append

pub mem-append : (i : ℕ) (a b : List ℕ) → mem i (a ++ b) ≡ (mem i a || mem i b)
unfolding mem
mem-append i [] b = refl
mem-append i (x ∷ a) b = rw (mem-append i a b, or_assoc (eqb i x) (mem i a) (mem i b))

pub in_append_left : (i : ℕ) (a b : List ℕ) → In i a → In i (a ++ b)
in_append_left i a b h = rw mem-append (or_left (mem i a) (mem i b) h)

pub in_append_right : (i : ℕ) (a b : List ℕ) → In i b → In i (a ++ b)
in_append_right i a b h = rw mem-append (or_right (mem i a) (mem i b) h)

pub in_snoc : (i j : ℕ) (o : List ℕ) → In i (o ++ (j ∷ [])) → In i o ⊎ (i ≡ j)
in_snoc i j o h =
    ⊎_elim inl (λ e. inr (⊎_elim (λ q. q) (λ z. in-nil i z) (in_cons i j [] e)))
    (or_cases (mem i o) (mem i (j ∷ [])) (rw mem-append at h))

pub in_last : (j : ℕ) (o : List ℕ) → In j (o ++ (j ∷ []))
in_last j o = in_append_right j o (j ∷ []) (in_self j [])

-- ---- map and take

pub in_map : (f : ℕ → ℕ) (x : ℕ) (xs : List ℕ) → In x xs → In (f x) (map f xs)
in_map f x [] m = in-nil x m
in_map f x (y ∷ xs) m =
    ⊎_elim (λ (e : x ≡ y). in_head (f x) (f y) (map f xs) (ap f e))
    (λ (n : In x xs). in_tail (f x) (f y) (map f xs) (in_map f x xs n)) (in_cons x y xs m)

pub map_in_out : (f : ℕ → ℕ) (y : ℕ) (xs : List ℕ) → In y (map f xs) → (x : ℕ) × In x xs × (f x ≡ y)
map_in_out f y [] m = in-nil y m
map_in_out f y (x ∷ xs) m =
    ⊎_elim
    (λ (e : y ≡ f x). (x, in_self x xs, sym e))
    (λ (n : In y (map f xs)). let t = map_in_out f y xs n in (t.0, in_tail t.0 x xs t.1, t.2))
    (in_cons y (f x) (map f xs) m)

pub map_in : (f g : ℕ → ℕ) (xs : List ℕ) → ((x : ℕ) → In x xs → f x ≡ g x) → map f xs ≡ map g xs
map_in f g [] e = refl
map_in f g (x ∷ xs) e = rw (e x (in_self x xs), map_in f g xs (λ y m. e y (in_tail y x xs m)))

pub in_take : (x k : ℕ) (xs : List ℕ) → In x (take k xs) → In x xs
in_take x zero xs m = in-nil x m
in_take x (suc k) [] m = m
in_take x (suc k) (y ∷ xs) m =
    ⊎_elim (λ (e : x ≡ y). in_head x y xs e) (λ (n : In x (take k xs)). in_tail x y xs (in_take x k xs n))
    (in_cons x y (take k xs) m)

-- ---- all

pub all_in : (p : ℕ → Bool) (xs : List ℕ) (i : ℕ) → all p xs ≡ true → In i xs → p i ≡ true
all_in p [] i h m = in-nil i m
all_in p (x ∷ xs) i h m =
    ⊎_elim (λ (e : i ≡ x). rw e (and_both (p x) (all p xs) h).0)
    (λ (n : In i xs). all_in p xs i (and_both (p x) (all p xs) h).1 n) (in_cons i x xs m)

pub in_all : (p : ℕ → Bool) (xs : List ℕ) → ((i : ℕ) → In i xs → p i ≡ true) → all p xs ≡ true
in_all p [] f = refl
in_all p (x ∷ xs) f = both_and (p x) (all p xs) (f x (in_self x xs)) (in_all p xs (λ i m. f i (in_tail i x xs m)))

-- ---- no number twice

abbrev pub Distinct : List ℕ → Type 0
Distinct [] = Unit {0}
Distinct (i ∷ o) = Out i o × Distinct o

pub out_snoc : (i j : ℕ) (o : List ℕ) → Out i o → (i ≡ j → ⊥) → Out i (o ++ (j ∷ []))
unfolding mem
out_snoc i j o h n = rw (mem-append, h, ne_eqb i j n)

pub distinct_snoc : (j : ℕ) (o : List ℕ) → Distinct o → Out j o → Distinct (o ++ (j ∷ []))
distinct_snoc j [] u h = (out_nil j, tt)
distinct_snoc j (i ∷ o) u h =
    let p = out_cons j i o h in
    (out_snoc i j o u.0 (λ e. p.0 (sym e)), distinct_snoc j o u.1 p.1)

pub at_in : (o : List ℕ) (k : ℕ) → k < length o → In (get_or o k 0) o
at_in [] k l = absurd (omega arith)
at_in (x ∷ o) zero l = in_self x o
at_in (x ∷ o) (suc k) l = in_tail (get_or o k 0) x o (at_in o k (omega arith))

pub distinct_once : (o : List ℕ) → Distinct o → D.EachOnce o
distinct_once [] u k l a b e = absurd (omega arith)
distinct_once (x ∷ o) u zero zero a b e = refl
distinct_once (x ∷ o) u zero (suc l) a b e = absurd (in_out (get_or o l 0) x o (at_in o l (omega arith)) u.0 (sym e))
distinct_once (x ∷ o) u (suc k) zero a b e = absurd (in_out (get_or o k 0) x o (at_in o k (omega arith)) u.0 e)
distinct_once (x ∷ o) u (suc k) (suc l) a b e = ap suc (distinct_once o u.1 k l (omega arith) (omega arith) e)

-- the place of a member
unfoldable pub place : ℕ → List ℕ → ℕ
place x [] = 0
place x (y ∷ ys) = cond (eqb x y) 0 (suc (place x ys))

pub place_at : (x : ℕ) (o : List ℕ) → In x o → (place x o < length o) × (get_or o (place x o) 0 ≡ x)
unfolding place
place_at x [] m = in-nil x m
place_at x (y ∷ o) m =
    ⊎_elim
    (λ (e : eqb x y ≡ true). rw e (omega arith, sym (eqb-true x y e)))
    (λ (e : eqb x y ≡ false). let ih = place_at x o (in_other x y o m e) in rw e (let l = ih.0 in omega arith, ih.1))
    (by_test (eqb x y))

pub position : (x : ℕ) (o : List ℕ) → In x o → (a : ℕ) × (a < length o) × (get_or o a 0 ≡ x)
position x o m = let p = place_at x o m in (place x o, p.0, p.1)

pub once_distinct : (o : List ℕ) → D.EachOnce o → Distinct o
once_distinct [] u = tt
once_distinct (x ∷ o) u = (
  ⊎_elim
      (λ (m : In x o).
      let p = position x o m in
      let z = u 0 (suc p.0) (omega arith) (let l = p.1 in omega arith) (sym p.2) in
      absurd (omega arith))
      (λ (n : Out x o). n)
      (by_test (mem x o)),
  once_distinct o (λ k l a b e. let z = u (suc k) (suc l) (omega arith) (omega arith) e in omega arith),
)

-- ---- the library's membership

pub mem_in : (i : ℕ) (o : List ℕ) → Memᴰ i o → In i o
mem_in i o (Memᴰ.head {x} {xs} e) = in_head i x xs e
mem_in i o (Memᴰ.tail {x} {xs} m) = in_tail i x xs (mem_in i xs m)

pub in_mem : (i : ℕ) (o : List ℕ) → In i o → Memᴰ i o
in_mem i [] h = in-nil i h
in_mem i (x ∷ o) h =
    ⊎_elim (λ (e : i ≡ x). Memᴰ.head e) (λ (n : In i o). Memᴰ.tail (in_mem i o n)) (in_cons i x o h)
