-- Laws of lists that the kit's library lacks: `map`, `◌++◌`, `replicate` and `sets` by index.
use Prim.Native.Nat.{ℕ, zero, suc, ◌+◌, ◌≤◌, ◌<◌}
use native.Mathlib.Omega.{arith}
use native.Mathlib.Nat.{add-zero}
use mathlib.Core.Path.{◌≡◌, refl, ap, ◌∙◌}
use mathlib.Core.List.{List, [], ◌∷◌, ◌++◌, map}
use lib.ListN.{length, get_or, set, drop, replicate, length-set}
use lib.Seq.{sets, get_or-set_same, get_or-set_other}
use Rattle.model.specs.Words.{at}

pub get_d_map : {A B : Type 0} (g : A → B) (xs : List A) (k : ℕ) (d : A) (e : B) → k < length xs
    → get_or (map g xs) k e ≡ g (get_or xs k d)
get_d_map g [] k d e l = absurd (omega arith)
get_d_map g (x ∷ xs) zero d e l = refl
get_d_map g (x ∷ xs) (suc k) d e l = get_d_map g xs k d e (omega arith)

pub map-append : {A B : Type 0} (f : A → B) (a b : List A) → map f (a ++ b) ≡ map f a ++ map f b
map-append f [] b = refl
map-append {B = B} f (x ∷ a) b = ap {B = List B} (λ r. f x ∷ r) (map-append f a b)

-- what stands behind parts of one length
pub append-rest : {A : Type 0} (a a' b b' : List A) → length a ≡ length a' → a ++ b ≡ a' ++ b' → b ≡ b'
append-rest [] [] b b' n e = e
append-rest [] (y ∷ a') b b' n e = absurd (omega arith)
append-rest (x ∷ a) [] b b' n e = absurd (omega arith)
append-rest {A} (x ∷ a) (y ∷ a') b b' n e = append-rest a a' b b' (omega arith) (ap (λ (l : List A). drop 1 l) e)

-- what is made alike of each
pub map_same : {A B : Type 0} (f g : A → B) (xs : List A) (d : A) → ((k : ℕ) → k < length xs → f (get_or xs k d) ≡ g (get_or xs k d))
    → map f xs ≡ map g xs
map_same f g [] d e = refl
map_same {B = B} f g (x ∷ xs) d e =
    ap {B = List B} (λ (y : B). y ∷ map f xs) (e zero (omega arith))
    ∙ ap {B = List B} (λ r. g x ∷ r) (map_same f g xs d (λ k l. e (suc k) (omega arith)))

-- all of one element, and past the end too
pub get_d_same : {A : Type 0} (n i : ℕ) (a : A) → get_or (replicate n a) i a ≡ a
get_d_same zero i a = refl
get_d_same (suc n) zero a = refl
get_d_same (suc n) (suc i) a = get_d_same n i a

-- ---- a run of words written into a list

pub sets-before : (l : List ℕ) (i : ℕ) (vs : List ℕ) (j : ℕ) → j < i → at (sets l i vs) j ≡ at l j
sets-before l i [] j b = refl
sets-before l i (v ∷ vs) j b =
    sets-before (set l i v) (suc i) vs j (omega arith) ∙ get_or-set_other l i j v 0 (λ e. omega arith)

pub sets_in : (l : List ℕ) (i : ℕ) (vs : List ℕ) (k : ℕ) → i + length vs ≤ length l → k < length vs
    → at (sets l i vs) (i + k) ≡ at vs k
sets_in l i [] k f b = absurd (omega arith)
sets_in l i (v ∷ vs) zero f b =
    rw add-zero (sets-before (set l i v) (suc i) vs i (omega arith) ∙ get_or-set_same l i v 0 (omega arith))
sets_in l i (v ∷ vs) (suc k) f b =
    let e : i + suc k ≡ suc i + k = omega arith in
    rw e (sets_in (set l i v) (suc i) vs k (let z = length-set l i v in omega arith) (omega arith))

pub sets-past : (l : List ℕ) (i : ℕ) (vs : List ℕ) (j : ℕ) → i + length vs ≤ j → at (sets l i vs) j ≡ at l j
sets-past l i [] j b = refl
sets-past l i (v ∷ vs) j b = sets-past (set l i v) (suc i) vs j (omega arith) ∙ get_or-set_other l i j v 0 (λ e. omega arith)
